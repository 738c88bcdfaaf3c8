-- Serving chain after chain: the lines so far, and then those of what follows, are the lines of all.
use Rattle.std.proofs.Common.{◌≡◌, ◌∙◌, sym, refl, ap, arith, ◌<◌, ◌≤◌, ℕ, zero, suc, ◌+◌, List, [], ◌++◌, Some, None, Ok, Err}
use Rattle.std.proofs.lemmas.List.{append-nil, append_assoc}
use Rattle.vring.specs.declared.chains.Chain.{Chain}
use Rattle.vring.specs.declared.faults.RingFault.{RingFault}
use Rattle.dax_device.specs.Queues.{DeviceView, IsServed, answer_to, answered, next_of, offered, popped, readable_in}
use Rattle.daxwire.specs.RingText.{Served, onto, no_more, served_at_most, all_served, lines_of}

-- what is served of a device, of which so many chains were served with this text
pub record IsServedSoFar (first : DeviceView) (count : ℕ) (now : DeviceView) (text : List ℕ) : Type 0 where
  pub more : ℕ
  pub counted : more + count ≡ offered first
  pub same : all_served first ≡ onto text (served_at_most more now)

pub nothing_served : (first : DeviceView) (text : List ℕ) → text ≡ [] → IsServedSoFar first 0 first text
nothing_served first text empty = record { more = offered first; counted = omega arith; same = rw empty refl }

serve_one : (n : ℕ) (d : DeviceView) (chain : Chain) → next_of d ≡ Ok (Some chain)
    → served_at_most (suc n) d ≡ onto (lines_of chain (readable_in d chain) (answer_to d chain)) (served_at_most n (answered (popped d) chain))
unfolding served_at_most
serve_one n d chain e = rw e refl

serve_none : (n : ℕ) (d : DeviceView) → next_of d ≡ Ok None → served_at_most (suc n) d ≡ no_more (Ok d.memory)
unfolding served_at_most
serve_none n d e = rw e refl

serve_fault : (n : ℕ) (d : DeviceView) (fault : RingFault) → next_of d ≡ Err fault → served_at_most (suc n) d ≡ no_more (Err fault)
unfolding served_at_most
serve_fault n d fault e = rw e refl

onto_both : (text lines : List ℕ) (more : Served) → onto text (onto lines more) ≡ onto (text ++ lines) more
onto_both text lines more = ap (λ (xs : List ℕ). record more { text = xs }) (sym (append_assoc text lines more.text))

-- one chain more
served_one_of : (more : ℕ) (first : DeviceView) (count : ℕ) (now new : DeviceView) (chain : Chain) (readable answer text text' : List ℕ) → count < offered first → more + count ≡ offered first → all_served first ≡ onto text (served_at_most more now)
    → IsServed now chain readable answer new → text' ≡ text ++ lines_of chain readable answer → IsServedSoFar first (count + 1) new text'
served_one_of zero first count now new chain readable answer text text' within counted same h lines = absurd (omega (arith, within, counted))
served_one_of (suc n) first count now new chain readable answer text text' within counted same h lines = record {
  more = n;
  counted = omega (arith, counted);
  same = rw (h.after, lines, h.readable_is, h.answer_is) (same ∙ ap (onto text) (serve_one n now chain h.found) ∙ onto_both text (lines_of chain (readable_in now chain) (answer_to now chain)) (served_at_most n (answered (popped now) chain)));
}

pub served_one : (first : DeviceView) (count : ℕ) (now new : DeviceView) (chain : Chain) (readable answer text text' : List ℕ) → count < offered first → IsServedSoFar first count now text
    → IsServed now chain readable answer new → text' ≡ text ++ lines_of chain readable answer → IsServedSoFar first (count + 1) new text'
served_one first count now new chain readable answer text text' within s h lines = served_one_of s.more first count now new chain readable answer text text' within s.counted s.same h lines

-- all that is served, where a turn found no chain
served_none_of : (more : ℕ) (first : DeviceView) (count : ℕ) (now new : DeviceView) (text : List ℕ) → count < offered first → more + count ≡ offered first → all_served first ≡ onto text (served_at_most more now)
    → next_of now ≡ Ok None → new ≡ now → all_served first ≡ record { text = text; left = Ok new.memory }
served_none_of zero first count now new text within counted same is after = absurd (omega (arith, within, counted))
served_none_of (suc n) first count now new text within counted same is after =
    rw after (same ∙ ap (onto text) (serve_none n now is) ∙ ap (λ (xs : List ℕ). record { text = xs; left = Ok now.memory }) (append-nil text))

pub served_none : (first : DeviceView) (count : ℕ) (now new : DeviceView) (text : List ℕ) → count < offered first → IsServedSoFar first count now text → next_of now ≡ Ok None → new ≡ now
    → all_served first ≡ record { text = text; left = Ok new.memory }
served_none first count now new text within s is after = served_none_of s.more first count now new text within s.counted s.same is after

-- .. or a fault
served_fault_of : (more : ℕ) (first : DeviceView) (count : ℕ) (now : DeviceView) (text : List ℕ) (fault : RingFault) → count < offered first → more + count ≡ offered first → all_served first ≡ onto text (served_at_most more now)
    → next_of now ≡ Err fault → all_served first ≡ record { text = text; left = Err fault }
served_fault_of zero first count now text fault within counted same is = absurd (omega (arith, within, counted))
served_fault_of (suc n) first count now text fault within counted same is =
    same ∙ ap (onto text) (serve_fault n now fault is) ∙ ap (λ (xs : List ℕ). record { text = xs; left = Err fault }) (append-nil text)

pub served_fault : (first : DeviceView) (count : ℕ) (now : DeviceView) (text : List ℕ) (fault : RingFault) → count < offered first → IsServedSoFar first count now text → next_of now ≡ Err fault
    → all_served first ≡ record { text = text; left = Err fault }
served_fault first count now text fault within s is = served_fault_of s.more first count now text fault within s.counted s.same is

-- .. or where all were served
served_all_of : (more : ℕ) (first : DeviceView) (count : ℕ) (now : DeviceView) (text : List ℕ) → offered first ≤ count → more + count ≡ offered first → all_served first ≡ onto text (served_at_most more now)
    → all_served first ≡ record { text = text; left = Ok now.memory }
unfolding served_at_most
served_all_of (suc n) first count now text all counted same = absurd (omega (arith, all, counted))
served_all_of zero first count now text all counted same = same ∙ ap (λ (xs : List ℕ). record { text = xs; left = Ok now.memory }) (append-nil text)

pub served_all : (first : DeviceView) (count : ℕ) (now : DeviceView) (text : List ℕ) → offered first ≤ count → IsServedSoFar first count now text → all_served first ≡ record { text = text; left = Ok now.memory }
served_all first count now text all s = served_all_of s.more first count now text all s.counted s.same
