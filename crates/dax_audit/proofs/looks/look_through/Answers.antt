use Rattle.std.proofs.Common.{◌≡◌, ◌∙◌, ap, sym, zero-add, false, ℕ, List, [], ◌∷◌, ◌++◌, Bool, zip, slice_get, length, map, subst, get_or, ◌<◌, Some, IfSome, arith}
use Rattle.std.proofs.lemmas.Grind.{common_steps, elements}
use Rattle.std.proofs.lemmas.Option.{slice_get_read, slice_get-get_or}
use Rattle.std.proofs.lemmas.List.FromFn.{map-range_with_len_more}
use Rattle.std.specs.List.{range_with_len}
use Rattle.dax_script.specs.Asks.{hold_in}
use Rattle.dax_audit.specs.Guests.{seen_at, given_at, seen_now, given_now, after_places}
use Rattle.dax_audit.proofs.Looked.{seen_on, seen_found, given_on, given_found, noted_length, back_length, length_zip}
use Rattle.dax_audit.proofs.looks.look_through.Goals as goal

pub loop-at-init : goal.loop-at-init
unfolding after_places
loop-at-init c = record {
  seen = grind (arith, common_steps);
  given = grind (arith, common_steps);
  files = grind (arith, common_steps);
  last = λ f h. grind (arith, common_steps, elements);
  holds = grind (arith, common_steps);
  released = λ h k. grind (arith, common_steps, elements);
}

pub seen_now-requires : goal.seen_now-requires
seen_now-requires c =
    let cs = c.args.calls.now in
    let ls = c.args.lines.now in
    let i = c.loop-at.at in
    let inv = c.loop-at.invariant in
    let call = c.index-calls-at.result in
    let at : slice_get cs i ≡ Some call = slice_get_read cs (length cs) i call (omega arith) (omega arith) c.index-calls-at.is in
    let to = c.target_of-to.result in
    let aimed : IfSome to (λ x. x.file < c.args.files) = subst (λ o. IfSome o (λ x. x.file < c.args.files)) (sym c.target_of-to.ensures) (c.requires.files i call at) in
    let small : IfSome to (λ x. x.file < length c.loop-at.last.items) = subst (λ m. IfSome to (λ x. x.file < m)) (sym inv.files) aimed in
    subst (λ (xs : List ℕ). IfSome to (λ x. x.file < length xs)) (sym c.deref.ensures.value) small

pub given_now-requires : goal.given_now-requires
given_now-requires c =
    let cs = c.args.calls.now in
    let ls = c.args.lines.now in
    let i = c.loop-at.at in
    let inv = c.loop-at.invariant in
    let call = c.index-calls-at.result in
    let at : slice_get cs i ≡ Some call = slice_get_read cs (length cs) i call (omega arith) (omega arith) c.index-calls-at.is in
    let to = c.target_of-to.result in
    let aimed : IfSome to (λ x. x.file < c.args.files) = subst (λ o. IfSome o (λ x. x.file < c.args.files)) (sym c.target_of-to.ensures) (c.requires.files i call at) in
    let small : IfSome to (λ x. x.file < length c.loop-at.last.items) = subst (λ m. IfSome to (λ x. x.file < m)) (sym inv.files) aimed in
    let hold = c.hold.result in
    let kept : IfSome hold (λ h. h < length c.args.holds.now) = subst (λ o. IfSome o (λ h. h < length c.args.holds.now)) (sym c.hold.ensures) (c.requires.given i call at) in
    let few : IfSome hold (λ h. h < length c.loop-at.released.items) = subst (λ m. IfSome hold (λ h. h < m)) (sym inv.holds) kept in
    subst (λ (xs : List Bool). IfSome hold (λ h. h < length xs)) (sym c.deref-in-loop-at.ensures.value) few

pub note_place-requires : goal.note_place-requires
note_place-requires c =
    let cs = c.args.calls.now in
    let ls = c.args.lines.now in
    let i = c.loop-at.at in
    let inv = c.loop-at.invariant in
    let call = c.index-calls-at.result in
    let at : slice_get cs i ≡ Some call = slice_get_read cs (length cs) i call (omega arith) (omega arith) c.index-calls-at.is in
    let to = c.target_of-to.result in
    let aimed : IfSome to (λ x. x.file < c.args.files) = subst (λ o. IfSome o (λ x. x.file < c.args.files)) (sym c.target_of-to.ensures) (c.requires.files i call at) in
    let small : IfSome to (λ x. x.file < length c.loop-at.last.items) = subst (λ m. IfSome to (λ x. x.file < m)) (sym inv.files) aimed in
    small

pub note_release-requires : goal.note_release-requires
note_release-requires c =
    let cs = c.args.calls.now in
    let ls = c.args.lines.now in
    let i = c.loop-at.at in
    let inv = c.loop-at.invariant in
    let call = c.index-calls-at.result in
    let at : slice_get cs i ≡ Some call = slice_get_read cs (length cs) i call (omega arith) (omega arith) c.index-calls-at.is in
    let to = c.target_of-to.result in
    let aimed : IfSome to (λ x. x.file < c.args.files) = subst (λ o. IfSome o (λ x. x.file < c.args.files)) (sym c.target_of-to.ensures) (c.requires.files i call at) in
    let small : IfSome to (λ x. x.file < length c.loop-at.last.items) = subst (λ m. IfSome to (λ x. x.file < m)) (sym inv.files) aimed in
    subst (λ m. IfSome (hold_in call) (λ h. h < m)) (sym inv.holds) (c.requires.given i call at)

pub loop-at-preserved : goal.loop-at-preserved
loop-at-preserved c =
    let cs = c.args.calls.now in
    let ls = c.args.lines.now in
    let i = c.loop-at.at in
    let inv = c.loop-at.invariant in
    let call = c.index-calls-at.result in
    let at : slice_get cs i ≡ Some call = slice_get_read cs (length cs) i call (omega arith) (omega arith) c.index-calls-at.is in
    let to = c.target_of-to.result in
    let aimed : IfSome to (λ x. x.file < c.args.files) = subst (λ o. IfSome o (λ x. x.file < c.args.files)) (sym c.target_of-to.ensures) (c.requires.files i call at) in
    let small : IfSome to (λ x. x.file < length c.loop-at.last.items) = subst (λ m. IfSome to (λ x. x.file < m)) (sym inv.files) aimed in
    let hold = c.hold.result in
    let kept : IfSome hold (λ h. h < length c.args.holds.now) = subst (λ o. IfSome o (λ h. h < length c.args.holds.now)) (sym c.hold.ensures) (c.requires.given i call at) in
    let few : IfSome hold (λ h. h < length c.loop-at.released.items) = subst (λ m. IfSome hold (λ h. h < m)) (sym inv.holds) kept in
    let n = get_or ls i c.index-lines-at.result in
    let there : slice_get ls i ≡ Some n = slice_get-get_or ls i c.index-lines-at.result (omega arith) in
    let saw : c.seen_now.result ≡ seen_at cs ls i = c.seen_now.ensures ∙ ap (λ (xs : List ℕ). seen_now xs to) c.deref.ensures.value ∙ seen_found cs ls i call c.loop-at.last.items to at c.target_of-to.ensures small (λ f h. inv.last f (omega (arith, h, inv.files))) in
    let gave : c.given_now.result ≡ given_at cs ls i = c.given_now.ensures ∙ ap (λ (xs : List Bool). given_now xs hold) c.deref-in-loop-at.ensures.value ∙ given_found cs ls i call c.loop-at.released.items hold at c.hold.ensures few (λ h k. inv.released h (omega (arith, k, inv.holds))) in
    let more_seen = map-range_with_len_more (seen_at cs ls) 0 i i (zero-add i) in
    let more_given = map-range_with_len_more (given_at cs ls) 0 i i (zero-add i) in
    record {
      seen = c.in_ok-push.ensures.items ∙ ap (λ (xs : List ℕ). xs ++ c.seen_now.result ∷ []) inv.seen ∙ ap (λ x. map (seen_at cs ls) (range_with_len 0 i) ++ x ∷ []) saw ∙ sym more_seen;
      given = c.in_ok-push-2.ensures.items ∙ ap (λ (xs : List Bool). xs ++ c.given_now.result ∷ []) inv.given ∙ ap (λ x. map (given_at cs ls) (range_with_len 0 i) ++ x ∷ []) gave ∙ sym more_given;
      files = ap length c.note_place.ensures ∙ noted_length c.loop-at.last.items to c.place_of.result ∙ inv.files;
      last = λ f h. ap (λ (xs : List ℕ). get_or xs f 0) c.note_place.ensures ∙ seen_on cs ls i call n c.loop-at.last.items to c.place_of.result f at there c.target_of-to.ensures c.place_of.ensures small (inv.last f h);
      holds = ap length c.note_release.ensures ∙ back_length c.loop-at.released.items call n.line ∙ inv.holds;
      released = λ h k. ap (λ (xs : List Bool). get_or xs h false) c.note_release.ensures ∙ given_on cs ls i call n c.loop-at.released.items h at there (omega (arith, k, inv.holds)) (inv.released h k);
    }

pub returns-clause-seen : goal.returns-clause-seen
returns-clause-seen c =
    let end : c.loop-at.at ≡ length (zip c.args.calls.now c.args.lines.now) = omega (arith, length_zip c.args.calls.now c.args.lines.now) in
    c.loop-at.invariant.seen ∙ ap (λ n. map (seen_at c.args.calls.now c.args.lines.now) (range_with_len 0 n)) end

pub returns-clause-given : goal.returns-clause-given
returns-clause-given c =
    let end : c.loop-at.at ≡ length (zip c.args.calls.now c.args.lines.now) = omega (arith, length_zip c.args.calls.now c.args.lines.now) in
    c.loop-at.invariant.given ∙ ap (λ n. map (given_at c.args.calls.now c.args.lines.now) (range_with_len 0 n)) end
