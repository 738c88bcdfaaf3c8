use Rattle.std.proofs.Common.{◌∙◌, sym, refl, length, arith}
use Rattle.window_access.proofs.Below.{below_unmapped, below_mapped}
use Rattle.window_access.proofs.InPage.{unmapped_other, mapped_page, read_only_page, writable_page, past_page, named_byte}
use Rattle.window_access.proofs.checks.first_in_page.Goals as goal

pub size_of-size-requires-clause-named : goal.size_of-size-requires-clause-named
size_of-size-requires-clause-named g c =
    (named_byte (length (g.F.FileBoard.board c.args.files.now).files) c.args.map.now c.args.at c.in-Some.p c.requires.can.names (sym c.find.ensures.byte ∙ c.in-Some.is)).0

pub size_of-size-requires-clause-within : goal.size_of-size-requires-clause-within
size_of-size-requires-clause-within g c =
    (named_byte (length (g.F.FileBoard.board c.args.files.now).files) c.args.map.now c.args.at c.in-Some.p c.requires.can.names (sym c.find.ensures.byte ∙ c.in-Some.is)).1

pub returns-in-ReadOnly : goal.returns-in-ReadOnly
returns-in-ReadOnly g c = record {
  value = sym (unmapped_other (g.F.FileBoard.board c.args.files.now) c.args.map.now c.args.cause c.args.at c.args.len (sym c.find.ensures.byte ∙ c.in-None.is) c.requires.page c.in-ReadOnly.is);
  below = λ past none. below_unmapped c.args.map.now c.args.at c.args.len (sym c.find.ensures.byte ∙ c.in-None.is) c.requires.page;
  same = refl;
}

pub returns-in-Unmapped-cause-clause-value : goal.returns-in-Unmapped-cause-clause-value
returns-in-Unmapped-cause-clause-value g c =
    rw c.in-Unmapped-cause.is (sym (mapped_page (g.F.FileBoard.board c.args.files.now) c.args.map.now c.args.at c.args.len c.in-Some.p (sym c.find.ensures.byte ∙ c.in-Some.is) c.requires.page))

pub returns-in-R-clause-value : goal.returns-in-R-clause-value
returns-in-R-clause-value g c =
    rw c.in-ReadOnly-cause.is (sym (read_only_page (g.F.FileBoard.board c.args.files.now) c.args.map.now c.args.at c.args.len c.in-Some.p (sym c.find.ensures.byte ∙ c.in-Some.is) c.in-R.is c.requires.page c.requires.some))

pub returns-in-W-clause-value : goal.returns-in-W-clause-value
returns-in-W-clause-value g c =
    rw c.in-ReadOnly-cause.is (sym (writable_page (g.F.FileBoard.board c.args.files.now) c.args.map.now c.args.at c.args.len c.in-Some.p (sym c.find.ensures.byte ∙ c.in-Some.is) c.in-W.is c.requires.page))

pub returns-in-PastEnd-clause-value : goal.returns-in-PastEnd-clause-value
returns-in-PastEnd-clause-value g c =
    rw (c.in-PastEnd.is, past_page (g.F.FileBoard.board c.args.files.now) c.args.map.now c.args.at c.args.len c.in-Some.p (sym c.find.ensures.byte ∙ c.in-Some.is) c.requires.page c.requires.some, ← c.size_of-size.ensures.value) c.first_past.ensures.value

pub returns-in-PastEnd-clause-below : goal.returns-in-PastEnd-clause-below
returns-in-PastEnd-clause-below g c = λ past none.
    below_mapped c.args.map.now c.args.at c.args.len c.in-Some.p (sym c.find.ensures.byte ∙ c.in-Some.is) c.requires.page (omega (arith, c.first_past.ensures.none none, c.size_of-size.ensures.small))
