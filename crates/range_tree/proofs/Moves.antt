-- Entries of the logs of the board of one guest: what they leave true, and the relations of their calls.
use Rattle.std.proofs.Common.{◌≡◌, ◌≢◌, ◌∙◌, ap, sym, refl, subst, ℕ, ◌+◌, ◌*◌, ◌<◌, ◌==◌, Bool, true, false, cond, List, [], ◌∷◌, ◌++◌, length, get_or, slice_set, option_map, Option, Some, None, inl, inr, arith}
use Rattle.std.specs.Prelude.{IfSome, IsSome, unwrap_or, Result, Ok, Err, IsErr}
use Rattle.std.proofs.lemmas.Grind.{common_steps}
use Rattle.std.proofs.lemmas.Bool.{cases_eq}
use Rattle.std.proofs.lemmas.List.{set-get_or, get_or-set_same, get_or-set_other}
use Rattle.plain_file.specs.declared.refusals.Memory.{Memory}
use Rattle.page_map.specs.declared.pages.Mode.{Mode}
use Rattle.page_map.specs.declared.pages.Mode.TheVariants as modes
use Rattle.page_map.specs.declared.pages.Page.{Page}
use Rattle.page_map.specs.declared.ranges.LogEntry.{LogEntry}
use Rattle.page_map.specs.declared.ranges.LogEntry.TheVariants as entries
use Rattle.page_map.specs.declared.ranges.Placed.{Placed}
use Rattle.page_map.specs.declared.ranges.Target.{Target}
use Rattle.page_map.specs.Logs.{Slot, slot_in, placed_at, placed_of, is_writable, upgraded, sound}
use Rattle.page_map.specs.Board.{MapView}
use Rattle.range_tree.specs.declared.plain.Owner.{Owner}
use Rattle.range_tree.specs.Trees.{remove_entry}
use Rattle.range_tree.specs.Ranges.{target_page, is_enough, IsAtLeast, IsMapped, IsTaken, Settles, IsSettled, CanUpgrade, IsRaisable, upgrade_of, upgraded_in}
use Rattle.range_tree.specs.Plain.{Parts, plain_view, owner_at, map_at, pins_at, pinned_at, entries_of, owned_slot, slot_for, owned_target, IsPinTarget, IsOwned, IsMoved, IsPlainRanges}
use Rattle.range_tree.proofs.Entries.{slot_in-remove, slot_in-remove_other, slot_in-place, slot_in-place_other, slot_in-upgrade, placed_at-slot, slot_placed, slot_in-placed}
use Rattle.range_tree.proofs.OneGuest.{slot_for-own, slot_for-other, slot_for-none, owner-slot, IsEntry, with_entry, inv-entry}
use Rattle.range_tree.proofs.Seeing.{keeps-table, takes-mapped}
use Rattle.range_tree.proofs.Pages.{is-mapped}

owned-slot : (s : Parts) (range : ℕ) (o : Owner) → IsPlainRanges s → owner_at s range ≡ Some o → slot_in (entries_of s o.file) range ≡ Some (owned_slot range o)
owned-slot s range o i e = i.slots o.file range ∙ ap (slot_for o.file range) e ∙ slot_for-own range o

-- what is placed in a range is found for its chunk
pub owner-found : (s : Parts) (range : ℕ) (o : Owner) → IsPlainRanges s → owner_at s range ≡ Some o → placed_at (entries_of s o.file) o.chunk ≡ Some (placed_of (owned_slot range o))
owner-found s range o i e = placed_at-slot (length s.pins) (entries_of s o.file) range (owned_slot range o) (i.logs o.file (i.owned range o e).known) (owned-slot s range o i e)

-- ---- removals

-- the log of a tree after the removal of what is placed in a range
pub removed-log : (s : Parts) (range : ℕ) (o : Owner) (old new : List LogEntry) → IsPlainRanges s → owner_at s range ≡ Some o → old ≡ entries_of s o.file →
    IfSome (placed_at old o.chunk) (λ p. new ≡ old ++ remove_entry p.range ∷ []) → new ≡ entries_of s o.file ++ entries.Remove range ∷ []
removed-log s range o old new i e is h =
    let at : placed_at old o.chunk ≡ Some (placed_of (owned_slot range o)) = ap (λ l. placed_at l o.chunk) is ∙ owner-found s range o i e in
    let done : new ≡ old ++ entries.Remove range ∷ [] = subst (λ (p : Option Placed). IfSome p (λ p. new ≡ old ++ remove_entry p.range ∷ [])) at h in
    done ∙ ap (λ l. l ++ entries.Remove range ∷ []) is

-- a removal that keeps the log sound
pub record IsRemoval (s : Parts) (range : ℕ) (o : Owner) (log : List LogEntry) : Type 0 where
  pub within : range < length s.pins
  pub owner : owner_at s range ≡ Some o
  pub unpinned : pins_at s range ≡ 0
  pub is : log ≡ entries_of s o.file ++ entries.Remove range ∷ []
  pub stays : sound (length s.pins) (entries_of s o.file) ≡ true → sound (length s.pins) log ≡ true

entry-removal : (s : Parts) (range : ℕ) (o : Owner) (log : List LogEntry) → IsPlainRanges s → IsRemoval s range o log → IsEntry s o.file range log None
entry-removal s range o log i r =
    let known = (i.owned range o r.owner).known in
    record {
      known = known;
      within = r.within;
      sound = r.stays (i.logs o.file known);
      here = ap (λ l. slot_in l range) r.is ∙ slot_in-remove (entries_of s o.file) range ∙ sym (slot_for-none o.file range);
      elsewhere = λ q ne. ap (λ l. slot_in l q) r.is ∙ slot_in-remove_other (entries_of s o.file) range q ne;
      others = λ f ne. slot_for-none f range ∙ sym (ap (slot_for f range) r.owner ∙ slot_for-other f range o ne);
      owned = λ own e. absurd (cc);
      pins = λ some. absurd (let none = r.unpinned in omega (arith, none, some));
    }

pub inv-removal : {s : Parts} (range : ℕ) (o : Owner) (log : List LogEntry) → IsPlainRanges s → IsRemoval s range o log → IsPlainRanges (with_entry s (Some range) o.file range log None)
inv-removal {s} range o log i r = inv-entry (Some range) o.file range log None i (entry-removal s range o log i r)
    (λ q e. let same : range ≡ q = cc in subst (λ q. (q < length s.pins) × (pins_at s q ≡ 0) × (get_or (slice_set s.owners range None) q None ≡ None)) same
    (r.within, r.unpinned, get_or-set_same s.owners range None None (let w = r.within in omega (arith, i.owners, w))))

pub takes-removal : (s : Parts) (range : ℕ) (o : Owner) (log : List LogEntry) → IsPlainRanges s → IsRemoval s range o log → s.moves ≡ None → s.tree ≡ Some o.file →
    IsTaken (plain_view s) range (plain_view (with_entry s (Some range) o.file range log None))
takes-removal s range o log i r still t = subst (λ l. IsTaken (plain_view s) range (plain_view (with_entry s (Some range) o.file range l None))) (sym r.is) (takes-mapped s range o i still t r.unpinned r.owner)

-- ---- places

numbers-same : (a b c d : ℕ) → 2097152 * a + 4096 * 0 ≡ 2097152 * b + 4096 * 0 → c + 2 ≡ d + 2 → (a ≡ b) × (c ≡ d)
numbers-same a b c d e f = (omega (arith, e), omega (arith, f))

-- what the first page of a range says of its target
first-page : (t u : Target) → target_page 0 t ≡ target_page 0 u → t ≡ u
first-page t u e =
    let n = numbers-same t.chunk u.chunk t.file u.file (ap (λ (p : Page). p.foffset) e) (ap (λ (p : Page). p.node) e) in
    let m : t.mode ≡ u.mode = ap (λ (p : Page). p.mode) e in
    ap (λ f. record { file = f; chunk = t.chunk; mode = t.mode }) n.1 ∙ ap (λ c. record { file = u.file; chunk = c; mode = t.mode }) n.0 ∙ ap (λ m. record { file = u.file; chunk = u.chunk; mode = m }) m

first-target : (m : Option Target) (t : Target) → option_map (target_page 0) m ≡ Some (target_page 0 t) → m ≡ Some t
first-target None t e = absurd (cc)
first-target (Some u) t e = ap (λ t. Some t) (first-page u t (cc))

inner : {X : Type 0} (a b : Option X) → Some a ≡ Some b → a ≡ b
inner a b e = cc

pub mapped-target : (s : Parts) (range : ℕ) (t : Target) → range < length s.maps → IsMapped (plain_view s) range (Some t) → map_at s range ≡ Some t
mapped-target s range t within h = first-target (map_at s range) t (inner _ _ (sym (is-mapped s range within 0 (omega arith)) ∙ h 0 (omega arith)))

enough-same : (m : Mode) → is_enough m m ≡ true
unfolding is_enough
enough-same modes.R = refl
enough-same modes.W = refl

enough-written : (m : Mode) → is_enough m modes.W ≡ true
unfolding is_enough
enough-written modes.R = refl
enough-written modes.W = refl

pub same-target : (t : Target) → IsAtLeast t t
same-target t = record { same_file = refl; same_chunk = refl; enough = enough-same t.mode }

-- a place of a chunk in the moved range, which keeps the log sound
pub record IsPlace (s : Parts) (file range : ℕ) (o : Owner) (log : List LogEntry) : Type 0 where
  pub own : o.file ≡ file
  pub tree : s.tree ≡ Some file
  pub moves : s.moves ≡ Some range
  pub small : o.chunk < 32
  pub mapped : IsMapped (plain_view s) range (Some (owned_target o))
  pub at : o.entry ≡ length (entries_of s file)
  pub is : log ≡ entries_of s file ++ entries.Place o.chunk range o.mode ∷ []
  pub stays : sound (length s.pins) (entries_of s file) ≡ true → sound (length s.pins) log ≡ true

pub tree-known : (s : Parts) (file : ℕ) → IsPlainRanges s → s.tree ≡ Some file → file < length s.logs
tree-known s file i t = subst (λ (t : Option ℕ). IfSome t (λ f. f < length s.logs)) t i.tree

entry-place : (s : Parts) (file range : ℕ) (o : Owner) (log : List LogEntry) → IsPlainRanges s → IsPlace s file range o log → IsEntry s file range log (Some o)
entry-place s file range o log i p =
    let m : IsMoved s range = i.moves range p.moves in
    let known = tree-known s file i p.tree in
    let free : slot_in (entries_of s file) range ≡ None = i.slots file range ∙ ap (slot_for file range) m.empty ∙ slot_for-none file range in
    record {
      known = known;
      within = m.within;
      sound = p.stays (i.logs file known);
      here = ap (λ l. slot_in l range) p.is ∙ slot_in-place (entries_of s file) o.chunk range o.mode free
          ∙ ap (λ n. Some (record { chunk = o.chunk; range = range; mode = o.mode; entry = n })) (sym p.at) ∙ sym (ap (λ f. slot_for f range (Some o)) (sym p.own) ∙ slot_for-own range o);
      elsewhere = λ q ne. ap (λ l. slot_in l q) p.is ∙ slot_in-place_other (entries_of s file) o.chunk range q o.mode ne;
      others = λ f ne. slot_for-other f range o (λ e. ne (e ∙ p.own)) ∙ sym (ap (slot_for f range) m.empty ∙ slot_for-none f range);
      owned = λ own e. let same : o ≡ own = cc in subst (λ x. IsOwned (length s.logs) (map_at s range) x) same (record {
        known = subst (λ f. f < length s.logs) (sym p.own) known;
        small = p.small;
        target = owned_target o;
        mapped = mapped-target s range (owned_target o) (let w = m.within in omega (arith, i.maps, w)) p.mapped;
        enough = same-target (owned_target o);
      });
      pins = λ some. absurd (let none = m.unpinned in omega (arith, none, some));
    }

pub inv-place : {s : Parts} (file range : ℕ) (o : Owner) (log : List LogEntry) → IsPlainRanges s → IsPlace s file range o log → IsPlainRanges (with_entry s None file range log (Some o))
inv-place {s} file range o log i p = inv-entry None file range log (Some o) i (entry-place s file range o log i p) (λ r e. absurd (cc))

pub settles-place : (s : Parts) (file range : ℕ) (o : Owner) (log : List LogEntry) → IsPlace s file range o log → IsSettled (plain_view s) o.chunk o.mode o.entry (plain_view (with_entry s None file range log (Some o)))
settles-place s file range o log p =
    let new = with_entry s None file range log (Some o) in
    record {
      at = rw p.tree p.at;
      becomes = record {
        rest = ap (λ l. plain_view (record new { logs = slice_set s.logs file l })) p.is ∙ rw (p.tree, p.moves) refl;
        pages = keeps-table (plain_view s) (plain_view new) refl;
      };
    }

-- ---- upgrades

-- an upgrade does nothing to the slot of another range
raised-other : (r q file : ℕ) (o : Option Owner) → q ≢ r → option_map (upgraded r) (slot_for file q o) ≡ slot_for file q o
unfolding slot_for
raised-other r q file None ne = refl
raised-other r q file (Some o) ne = go (o.file == file)
  where
    go : (b : Bool) → option_map (upgraded r) (cond b (Some (owned_slot q o)) None) ≡ cond b (Some (owned_slot q o)) None
    go true = let other : (q == r) ≡ false = grind (arith, common_steps, ne) in rw other refl
    go false = refl

raised-same : (r : ℕ) (s : Slot) → s.range ≡ r → upgraded r s ≡ record s { mode = modes.W }
raised-same r s e = let same : (s.range == r) ≡ true = grind (arith, common_steps, e) in rw same refl

-- what is found for a chunk owns its range
pub found-owner : (s : Parts) (file chunk : ℕ) (p : Placed) → IsPlainRanges s → file < length s.logs → placed_at (entries_of s file) chunk ≡ Some p → owner_at s p.range ≡ Some (record { file = file; chunk = chunk; mode = p.mode; entry = p.entry })
found-owner s file chunk p i known at = go (owner_at s p.range) refl
  where
    slot : slot_for file p.range (owner_at s p.range) ≡ Some (slot_placed chunk p)
    slot = sym (i.slots file p.range) ∙ slot_in-placed (length s.pins) (entries_of s file) chunk p (i.logs file known) at

    go : (o : Option Owner) → owner_at s p.range ≡ o → owner_at s p.range ≡ Some (record { file = file; chunk = chunk; mode = p.mode; entry = p.entry })
    go None e = absurd (let n : None ≡ Some (slot_placed chunk p) = sym (slot_for-none file p.range) ∙ (sym (ap (slot_for file p.range) e) ∙ slot) in cc)
    go (Some o) e =
        let h = (owner-slot file p.range (Some o) (slot_placed chunk p) (sym (ap (slot_for file p.range) e) ∙ slot)).0 in
        e ∙ ap (λ f. Some (record { file = f; chunk = o.chunk; mode = o.mode; entry = o.entry })) h.0
        ∙ ap (λ (x : Slot). Some (record { file = file; chunk = x.chunk; mode = x.mode; entry = x.entry })) h.1

-- an upgrade of what is found for a chunk, which keeps the log sound
pub record IsUpgrade (s : Parts) (file chunk : ℕ) (p : Placed) (log : List LogEntry) : Type 0 where
  pub tree : s.tree ≡ Some file
  pub found : placed_at (entries_of s file) chunk ≡ Some p
  pub mapped : IsMapped (plain_view s) p.range (Some (record { file = file; chunk = chunk; mode = modes.W }))
  pub is : log ≡ entries_of s file ++ entries.Upgrade p.range ∷ []
  pub stays : sound (length s.pins) (entries_of s file) ≡ true → sound (length s.pins) log ≡ true
  pub within : p.range < length s.pins

abbrev pub raised_owner : ℕ → ℕ → Placed → Owner
raised_owner file chunk p = record { file = file; chunk = chunk; mode = modes.W; entry = p.entry }

entry-upgrade : (s : Parts) (file chunk : ℕ) (p : Placed) (log : List LogEntry) → IsPlainRanges s → IsUpgrade s file chunk p log → IsEntry s file p.range log (Some (raised_owner file chunk p))
entry-upgrade s file chunk p log i u =
    let known = tree-known s file i u.tree in
    let old : Owner = record { file = file; chunk = chunk; mode = p.mode; entry = p.entry } in
    let owner : owner_at s p.range ≡ Some old = found-owner s file chunk p i known u.found in
    let w : IsOwned (length s.logs) (map_at s p.range) old = i.owned p.range old owner in
    let new = raised_owner file chunk p in
    record {
      known = known;
      within = u.within;
      sound = u.stays (i.logs file known);
      here = ap (λ l. slot_in l p.range) u.is ∙ slot_in-upgrade (entries_of s file) p.range p.range ∙ ap (option_map (upgraded p.range)) (owned-slot s p.range old i owner)
          ∙ ap (λ x. Some x) (raised-same p.range (owned_slot p.range old) refl) ∙ sym (slot_for-own p.range new);
      elsewhere = λ q ne. ap (λ l. slot_in l q) u.is ∙ slot_in-upgrade (entries_of s file) p.range q ∙ ap (option_map (upgraded p.range)) (i.slots file q) ∙ raised-other p.range q file (owner_at s q) ne ∙ sym (i.slots file q);
      others = λ f ne. slot_for-other f p.range new ne ∙ sym (ap (slot_for f p.range) owner ∙ slot_for-other f p.range old ne);
      owned = λ own e. let same : new ≡ own = cc in subst (λ x. IsOwned (length s.logs) (map_at s p.range) x) same (record {
        known = known;
        small = w.small;
        target = owned_target new;
        mapped = mapped-target s p.range (owned_target new) (let b = u.within in omega (arith, i.maps, b)) u.mapped;
        enough = same-target (owned_target new);
      });
      pins = λ some.
          let t : IsPinTarget (owner_at s p.range) (pinned_at s p.range) = i.pins p.range some in
          let same : t.own ≡ old = (let k : Some t.own ≡ Some old = sym t.placed ∙ owner in cc) in
          let e : IsAtLeast (pinned_at s p.range) (owned_target old) = subst (λ x. IsAtLeast (pinned_at s p.range) (owned_target x)) same t.enough in
          record { own = new; placed = refl; enough = record { same_file = e.same_file; same_chunk = e.same_chunk; enough = enough-written (pinned_at s p.range).mode } };
    }

pub inv-upgrade : {s : Parts} (file chunk : ℕ) (p : Placed) (log : List LogEntry) → IsPlainRanges s → IsUpgrade s file chunk p log → IsPlainRanges (with_entry s s.moves file p.range log (Some (raised_owner file chunk p)))
inv-upgrade {s} file chunk p log i u = inv-entry s.moves file p.range log (Some (raised_owner file chunk p)) i (entry-upgrade s file chunk p log i u)
    (λ r e. let m : IsMoved s r = i.moves r e in (
      m.within,
      m.unpinned,
      elim (cases_eq r p.range) [
        | inl same ↦ absurd (
            let owner = found-owner s file chunk p i (tree-known s file i u.tree) u.found in
            let k : None ≡ Some (record { file = file; chunk = chunk; mode = p.mode; entry = p.entry }) = sym m.empty ∙ (ap (owner_at s) same ∙ owner) in cc)
        | inr other ↦ get_or-set_other s.owners p.range r (Some (raised_owner file chunk p)) None other ∙ m.empty
      ],
    ))

upgrade_of-some : (p : Placed) → upgrade_of (Some p) ≡ entries.Upgrade p.range ∷ []
unfolding upgrade_of
upgrade_of-some p = refl

pub upgrades-one : (s : Parts) (file chunk : ℕ) (p : Placed) (log : List LogEntry) → IsUpgrade s file chunk p log → plain_view (with_entry s s.moves file p.range log (Some (raised_owner file chunk p))) ≡ upgraded_in (plain_view s) chunk
upgrades-one s file chunk p log u =
    ap (λ l. plain_view (record s { logs = slice_set s.logs file l })) u.is
    ∙ ap (λ l. plain_view (record s { logs = slice_set s.logs file (entries_of s file ++ l) })) (sym (ap upgrade_of u.found ∙ upgrade_of-some p))
    ∙ rw u.tree refl

-- ---- want of memory

pub settles-not : (v w : MapView) (chunk : ℕ) (mode : Mode) (r : Result ℕ Memory) → IsErr r → w ≡ v → Settles v chunk mode r w
unfolding Settles
settles-not v w chunk mode (Ok n) failed same = absurd (cc)
settles-not v w chunk mode (Err e) failed same = same

pub same-parts : (s : Parts) (file : ℕ) (log : List LogEntry) → log ≡ entries_of s file → plain_view (record s { logs = slice_set s.logs file log }) ≡ plain_view s
same-parts s file log e = ap (λ l. plain_view (record s { logs = slice_set s.logs file l })) e ∙ ap (λ l. plain_view (record s { logs = l })) (set-get_or s.logs file [])

-- ---- what an upgrade asks

-- what is placed for the chunk, and what its range is mapped to
pub record IsReadingIn (s : Parts) (file chunk : ℕ) (p : Placed) : Type 0 where
  pub found : placed_at (entries_of s file) chunk ≡ Some p
  pub reading : p.mode ≡ modes.R
  pub mapped : IsMapped (plain_view s) p.range (Some (record { file = file; chunk = chunk; mode = modes.W }))

pub raisable-parts : (s : Parts) (file chunk : ℕ) (o : Option Placed) → s.tree ≡ Some file → CanUpgrade (plain_view s) chunk → placed_at (entries_of s file) chunk ≡ o → IsSome o × IfSome o (IsReadingIn s file chunk)
unfolding IsRaisable
raisable-parts s file chunk o t h at =
    let had : IsRaisable (plain_view (record s { tree = Some file })) chunk (placed_at (entries_of s file) chunk) =
    subst (λ (t : Option ℕ). IsRaisable (plain_view (record s { tree = t })) chunk (placed_at (entries_of s (unwrap_or t 0)) chunk)) t h.raisable in
    go o at (subst (λ (x : Option Placed). IsRaisable (plain_view (record s { tree = Some file })) chunk x) at had)
  where
    go : (o : Option Placed) → placed_at (entries_of s file) chunk ≡ o → IsRaisable (plain_view (record s { tree = Some file })) chunk o → IsSome o × IfSome o (IsReadingIn s file chunk)
    go None at r = absurd r
    go (Some p) at r = (refl, record { found = at; reading = r.0; mapped = r.1 })

pub reading-mode : (m : Mode) → m ≡ modes.R → is_writable m ≡ false
unfolding is_writable
reading-mode m e = ap is_writable e
