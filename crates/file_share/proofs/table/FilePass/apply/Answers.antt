use Rattle.std.proofs.Common.{◌≡◌, ◌<◌, ℕ, length, Option, Some, None, Ok, sym, subst, ap, ◌∙◌, arith, set, get_or-set_same, get_or-set_other, length-set}
use Rattle.plain_file.specs.declared.operations.Applied.{Applied}
use Rattle.plain_file.specs.declared.operations.Entry.{Entry}
use Rattle.plain_file.specs.History.{Past, grown}
use Rattle.files_core.specs.Files.{set_size}
use Rattle.seats.specs.Views.{guests}
use Rattle.file_share.specs.Table.{part}
use Rattle.file_share.specs.Steps.{DoesOn, Always}
use Rattle.file_share.specs.Known.{Known, known, Sound, IsUnbarred, Applies, entry_of, size_with}
use Rattle.file_share.proofs.Calling.{near_of, sound_applied, applied_is_shown}
use Rattle.file_share.proofs.Applying.{size_is, size_after, lower, no_lower, past_is, newest, applies}
use Rattle.file_share.proofs.table.FilePass.apply.Goals as goal

pub returns-then-is_unbarred : goal.returns-then-is_unbarred
returns-then-is_unbarred c =
    let s = c.self.inside in
    let f = c.args.file in
    let hand = c.in-Some.hand in
    let ok = subst (λ (o : Option Past). Sound s.seat o s.file s.guest s.bar s.last) c.in-Some.is c.self.invariant in
    let on = ap (λ (k : Known). (part k.view f).turn) c.self.view_is ∙ c.requires.turn.0 in
    let bare = ap (λ (k : Known). (part k.view f).applied) c.self.view_is ∙ c.requires.turn.1 in
    let e = entry_of (known s.seat s.mark) c.args.op in
    let n = c.size-size.result in
    let low = c.if-is_unbarred.ensures in
    let r : IsUnbarred (known s.seat s.mark) f e n × (known s.seat s.mark ≡ c.args.self.now) = (record { lowers = lower s.seat hand s.file f s.guest s.bar s.last ok on bare e n c.size-size.ensures.value low.1; unbarred = ok.bar_is f ∙ low.0; size_is = size_is s.seat hand s.file f s.guest s.bar s.last ok on bare n c.size-size.ensures.value }, c.self.view_is) in
    subst (λ (k : Known). IsUnbarred k f (entry_of k c.args.op) n × (known s.seat s.mark ≡ c.args.self.now)) c.self.view_is r

pub put_size-requires-clause-size : goal.put_size-requires-clause-size
put_size-requires-clause-size c =
    let s = c.self.inside in
    let f = c.args.file in
    let hand = c.in-Some.hand in
    let ok = subst (λ (o : Option Past). Sound s.seat o s.file s.guest s.bar s.last) c.in-Some.is c.self.invariant in
    let on = ap (λ (k : Known). (part k.view f).turn) c.self.view_is ∙ c.requires.turn.0 in
    let bare = ap (λ (k : Known). (part k.view f).applied) c.self.view_is ∙ c.requires.turn.1 in
    let e = entry_of (known s.seat s.mark) c.args.op in
    let n = c.size-size.result in
    let own : record { guest = s.guest; call = s.mark.call; op = c.args.op; way = s.mark.way } ≡ e = λ i. record { guest = ok.guest_is i; call = s.mark.call; op = c.args.op; way = s.mark.way } in
    let q = c.in_ok-applied.ensures in
    let more = q.ok ∙ ap (grown hand) own in
    let last = newest hand.history c.as_slice.result.now e c.index-as_slice-applied.result c.in_ok-applied.applied.place (c.as_slice.ensures ∙ (c.history.ensures ∙ ap (λ (p : Past). p.history) more)) (ap (λ (a : Applied). a.place) q.answer) c.index-as_slice-applied.is in
    size_after s.seat hand s.file f s.guest s.bar s.last ok on bare e c.apply.new.self c.size-after.result c.size-after.ensures.value more ∙ ap (size_with s.seat.me.0 f) (sym last)

pub put_size-requires-clause-safe : goal.put_size-requires-clause-safe
put_size-requires-clause-safe c low =
    let s = c.self.inside in
    let f = c.args.file in
    let hand = c.in-Some.hand in
    let ok = subst (λ (o : Option Past). Sound s.seat o s.file s.guest s.bar s.last) c.in-Some.is c.self.invariant in
    let on = ap (λ (k : Known). (part k.view f).turn) c.self.view_is ∙ c.requires.turn.0 in
    let bare = ap (λ (k : Known). (part k.view f).applied) c.self.view_is ∙ c.requires.turn.1 in
    let e = entry_of (known s.seat s.mark) c.args.op in
    let n = c.size-size.result in
    let own : record { guest = s.guest; call = s.mark.call; op = c.args.op; way = s.mark.way } ≡ e = λ i. record { guest = ok.guest_is i; call = s.mark.call; op = c.args.op; way = s.mark.way } in
    let q = c.in_ok-applied.ensures in
    let more = q.ok ∙ ap (grown hand) own in
    let last = newest hand.history c.as_slice.result.now e c.index-as_slice-applied.result c.in_ok-applied.applied.place (c.as_slice.ensures ∙ (c.history.ensures ∙ ap (λ (p : Past). p.history) more)) (ap (λ (a : Applied). a.place) q.answer) c.index-as_slice-applied.is in
    let after = size_after s.seat hand s.file f s.guest s.bar s.last ok on bare e c.apply.new.self c.size-after.result c.size-after.ensures.value more in
    no_lower s.seat hand s.file f s.guest s.bar s.last ok on bare e n c.size-size.ensures.value c.if-is_unbarred.ensures (omega arith)

pub invariant_of-self-2 : goal.invariant_of-self-2
invariant_of-self-2 c =
    let s = c.self.inside in
    let f = c.args.file in
    let hand = c.in-Some.hand in
    let ok = subst (λ (o : Option Past). Sound s.seat o s.file s.guest s.bar s.last) c.in-Some.is c.self.invariant in
    let on = ap (λ (k : Known). (part k.view f).turn) c.self.view_is ∙ c.requires.turn.0 in
    let bare = ap (λ (k : Known). (part k.view f).applied) c.self.view_is ∙ c.requires.turn.1 in
    let e = entry_of (known s.seat s.mark) c.args.op in
    let n = c.size-size.result in
    let own : record { guest = s.guest; call = s.mark.call; op = c.args.op; way = s.mark.way } ≡ e = λ i. record { guest = ok.guest_is i; call = s.mark.call; op = c.args.op; way = s.mark.way } in
    let q = c.in_ok-applied.ensures in
    let more = q.ok ∙ ap (grown hand) own in
    let last = newest hand.history c.as_slice.result.now e c.index-as_slice-applied.result c.in_ok-applied.applied.place (c.as_slice.ensures ∙ (c.history.ensures ∙ ap (λ (p : Past). p.history) more)) (ap (λ (a : Applied). a.place) q.answer) c.index-as_slice-applied.is in
    let x = c.put_size.ensures in
    let t = c.put_size.new.seat in
    let place : c.in_ok-applied.applied.place ≡ length (part s.seat.me.0 f).seen = ap (λ (a : Applied). a.place) q.answer ∙ ap (λ (p : Past). length p.history) (past_is s.seat hand s.file f s.guest s.bar s.last ok on bare) in
    let small = c.self.invariant.few in let wide = c.self.invariant.wide in let near = near_of c.self.inside.seat c.self.inside.mark c.args.self.now c.args.table.now c.args.file c.self.invariant.wide c.self.view_is c.requires.table.0 c.requires.table.1 in
    let d = subst (λ (y : Entry). DoesOn f (set_size y) Always s.seat.me.0 t.me.0) last x.deed.0 in
    subst (λ (p : Past). Sound t (Some p) s.file s.guest s.bar (set s.last f (Some c.in_ok-applied.applied.place))) (sym more)
    (sound_applied s.seat t f e d hand s.file s.guest s.bar s.last (set s.last f (Some c.in_ok-applied.applied.place)) ok near x.table on bare (sym ok.guest_is) x.deed.1 (length-set s.last f (Some c.in_ok-applied.applied.place) ∙ ok.long)
    (get_or-set_same s.last f (Some c.in_ok-applied.applied.place) None (let long = ok.long in omega arith) ∙ ap (λ n. Some n) place) (λ i ne. get_or-set_other s.last f i (Some c.in_ok-applied.applied.place) None ne))

pub returns : goal.returns
returns c =
    let s = c.self.inside in
    let f = c.args.file in
    let hand = c.in-Some.hand in
    let ok = subst (λ (o : Option Past). Sound s.seat o s.file s.guest s.bar s.last) c.in-Some.is c.self.invariant in
    let on = ap (λ (k : Known). (part k.view f).turn) c.self.view_is ∙ c.requires.turn.0 in
    let bare = ap (λ (k : Known). (part k.view f).applied) c.self.view_is ∙ c.requires.turn.1 in
    let e = entry_of (known s.seat s.mark) c.args.op in
    let n = c.size-size.result in
    let own : record { guest = s.guest; call = s.mark.call; op = c.args.op; way = s.mark.way } ≡ e = λ i. record { guest = ok.guest_is i; call = s.mark.call; op = c.args.op; way = s.mark.way } in
    let q = c.in_ok-applied.ensures in
    let more = q.ok ∙ ap (grown hand) own in
    let last = newest hand.history c.as_slice.result.now e c.index-as_slice-applied.result c.in_ok-applied.applied.place (c.as_slice.ensures ∙ (c.history.ensures ∙ ap (λ (p : Past). p.history) more)) (ap (λ (a : Applied). a.place) q.answer) c.index-as_slice-applied.is in
    let x = c.put_size.ensures in
    let t = c.put_size.new.seat in
    let d = subst (λ (y : Entry). DoesOn f (set_size y) Always s.seat.me.0 t.me.0) last x.deed.0 in
    let near = near_of c.self.inside.seat c.self.inside.mark c.args.self.now c.args.table.now c.args.file c.self.invariant.wide c.self.view_is c.requires.table.0 c.requires.table.1 in
    subst (λ (k : Known). Applies k f (entry_of k c.args.op) (Ok c.in_ok-applied.applied) (known t s.mark)) c.self.view_is
    (applies s.seat hand s.file f s.guest s.bar s.last ok on bare t s.mark e c.in_ok-applied.applied n c.size-size.ensures.value c.if-is_unbarred.ensures q.answer x.table d (applied_is_shown s.seat t f e d (subst (λ (i : ℕ). i < guests) ok.guest_is ok.small)))
