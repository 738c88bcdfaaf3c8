-- What the device's side keeps, and what its calls do.
use Rattle.std.specs.Prelude.{◌≡◌, ◌≢◌, ℕ, ◌+◌, ◌*◌, ◌%◌, ◌^◌, Bool, true, false, List, ◌++◌, Option, Some, None, Result, Ok, Err, if◌then◌else◌}
use Rattle.std.specs.Int.{w16, w32, to_le_bytes}
use Rattle.vring.specs.declared.layouts.Layout.{Layout}
use Rattle.vring.specs.declared.chains.Chain.{Chain}
use Rattle.vring.specs.declared.faults.PopError.{PopError}
use Rattle.vring.specs.declared.faults.PopError.TheVariants as errors
use Rattle.vring.specs.declared.faults.RingFault.{RingFault}
use Rattle.vring.specs.Bytes.{put_at}
use Rattle.vring.specs.Layout.{is_allowed}
use Rattle.vring.specs.Chain.{chain_at}

-- a ring as its calls see it
pub record RingView : Type 0 where
  -- where its areas lie
  pub layout : Layout
  -- how many chains were popped, and pushed, from `start` on and modulo 2 ^ 16
  pub seen : ℕ
  pub used_index : ℕ

-- a ring whose indices begin at start, exactly where its areas may lie so
abbrev pub new_ring : Layout → ℕ → Option RingView
new_ring l start = if is_allowed l then Some (record { layout = l; seen = start; used_index = start }) else None

-- the index after this one
abbrev pub next_index : ℕ → ℕ
next_index n = (n + 1) % 2 ^ 16

-- the chain is what was found, or the fault is, unless an allocation was refused
abbrev pub Fills : Result Unit PopError → Chain → Result (Option Chain) RingFault → Type 0
Fills (Ok _) chain found = found ≡ Ok (Some chain)
Fills (Err (errors.Fault f)) chain found = found ≡ Err f
Fills (Err errors.Memory) chain found = Unit {0}

-- the same where there may be no chain, and no allocation is refused then
abbrev pub Finds : Result Bool PopError → Chain → Result (Option Chain) RingFault → Type 0
Finds (Ok true) chain found = found ≡ Ok (Some chain)
Finds (Ok false) chain found = found ≡ Ok None
Finds (Err (errors.Fault f)) chain found = found ≡ Err f
Finds (Err errors.Memory) chain found = found ≢ Ok None

-- What was popped is what the memory has. A chain raises the seen index; whatever else comes leaves
-- the ring as it was. An allocation is refused only where something is offered.
abbrev pub Pops : RingView → List ℕ → Result (Option Chain) PopError → RingView → Type 0
Pops old mem (Ok (Some chain)) new = (chain_at mem old.layout old.seen ≡ Ok (Some chain)) × (new ≡ record old { seen = next_index old.seen })
Pops old mem (Ok None) new = (chain_at mem old.layout old.seen ≡ Ok None) × (new ≡ old)
Pops old mem (Err (errors.Fault f)) new = (chain_at mem old.layout old.seen ≡ Err f) × (new ≡ old)
Pops old mem (Err errors.Memory) new = (chain_at mem old.layout old.seen ≢ Ok None) × (new ≡ old)

-- the same, where the chain is another value than the answer, which says whether there is one
abbrev pub PopsInto : RingView → List ℕ → Result Bool PopError → Chain → RingView → Type 0
PopsInto old mem (Ok true) chain new = (chain_at mem old.layout old.seen ≡ Ok (Some chain)) × (new ≡ record old { seen = next_index old.seen })
PopsInto old mem (Ok false) chain new = (chain_at mem old.layout old.seen ≡ Ok None) × (new ≡ old)
PopsInto old mem (Err (errors.Fault f)) chain new = (chain_at mem old.layout old.seen ≡ Err f) × (new ≡ old)
PopsInto old mem (Err errors.Memory) chain new = (chain_at mem old.layout old.seen ≢ Ok None) × (new ≡ old)

-- the memory after a chain is pushed: the used ring's entry at its place, then the used index
abbrev pub used_pushed : RingView → List ℕ → ℕ → ℕ → List ℕ
used_pushed r mem head len =
    let entry = put_at mem (r.layout.used + 4 + 8 * (r.used_index % r.layout.size)) (to_le_bytes w32 head ++ to_le_bytes w32 len) in
    put_at entry (r.layout.used + 2) (to_le_bytes w16 (next_index r.used_index))
