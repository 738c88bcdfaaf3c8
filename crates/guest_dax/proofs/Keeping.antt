-- What the calls of a board of ranges keep of it.
use Rattle.std.proofs.Common.{◌≡◌, ◌∙◌, ap, sym, refl, subst, ℕ, zero, suc, true, List, [], ◌∷◌, ◌++◌, length, slice_set, get_or, Option, None, Some, arith, append_assoc}
use Rattle.std.proofs.lemmas.List.{append-nil}
use Rattle.std.proofs.lemmas.Grind.{common_steps}
use Rattle.page_map.specs.declared.pages.Mode.{Mode}
use Rattle.page_map.specs.declared.pages.Mode.TheVariants as modes
use Rattle.page_map.specs.declared.ranges.LogEntry.{LogEntry}
use Rattle.page_map.specs.declared.ranges.Target.{Target}
use Rattle.page_map.specs.Board.{MapView, log_at}
use Rattle.range_tree.specs.Ranges.{IsAtLeast, is_enough, Becomes, pinned_in, KeepsHeld, with_moves, with_more, taken, tree_of, tree_slot, removal, Enters, Leaves}
use Rattle.guest_wire.specs.Keeps.{Begins}
use Rattle.guest_dax.specs.Stands.{KeepsMap}

pub Begins-same : {X : Type 0} (xs : List X) → Begins xs xs
Begins-same xs = ([], sym (append-nil xs))

pub Begins-both : {X : Type 0} (xs ys zs : List X) → Begins xs ys → Begins ys zs → Begins xs zs
Begins-both xs ys zs (a, e) (b, d) = (a ++ b, d ∙ ap (λ l. l ++ b) e ∙ append_assoc xs a b)

-- one log grows
pub Begins-log : (logs : List (List LogEntry)) (i j : ℕ) (more : List LogEntry) → Begins (get_or logs j []) (get_or (slice_set logs i (get_or logs i [] ++ more)) j [])
Begins-log [] i j more = ([], refl)
Begins-log (l ∷ ls) zero zero more = (more, refl)
Begins-log (l ∷ ls) zero (suc j) more = Begins-same (get_or ls j [])
Begins-log (l ∷ ls) (suc i) zero more = Begins-same l
Begins-log (l ∷ ls) (suc i) (suc j) more = Begins-log ls i j more

pub length-log : (logs : List (List LogEntry)) (i : ℕ) (l : List LogEntry) → length (slice_set logs i l) ≡ length logs
length-log logs i l = grind (arith, common_steps)

enough-same : (m : Mode) → is_enough m m ≡ true
unfolding is_enough
enough-same modes.R = refl
enough-same modes.W = refl

enough-both : (a b c : Mode) → is_enough a b ≡ true → is_enough b c ≡ true → is_enough a c ≡ true
unfolding is_enough
enough-both modes.R b c h k = refl
enough-both modes.W modes.R c h k = cc
enough-both modes.W modes.W c h k = k

pub IsAtLeast-same : (t : Target) → IsAtLeast t t
IsAtLeast-same t = record { same_file = refl; same_chunk = refl; enough = enough-same t.mode }

pub IsAtLeast-both : (s t u : Target) → IsAtLeast s t → IsAtLeast t u → IsAtLeast s u
IsAtLeast-both s t u a b = record { same_file = b.same_file ∙ a.same_file; same_chunk = b.same_chunk ∙ a.same_chunk; enough = enough-both s.mode t.mode u.mode a.enough b.enough }

pub KeepsMap-same : (v : MapView) → KeepsMap v v
KeepsMap-same v = record { plain = refl; over = refl; guest = refl; may_take = refl; others = refl; pages = refl; count = refl; files = refl; logs = λ file. Begins-same (log_at v file); pins = λ range. omega arith; pinned = λ range h. IsAtLeast-same (pinned_in v range) }

pub KeepsMap-both : (u v w : MapView) → KeepsMap u v → KeepsMap v w → KeepsMap u w
KeepsMap-both u v w h k = record {
  plain = k.plain ∙ h.plain;
  over = k.over ∙ h.over;
  guest = k.guest ∙ h.guest;
  may_take = k.may_take ∙ h.may_take;
  others = k.others ∙ h.others;
  pages = k.pages ∙ h.pages;
  count = k.count ∙ h.count;
  files = k.files ∙ h.files;
  logs = λ file. Begins-both (log_at u file) (log_at v file) (log_at w file) (h.logs file) (k.logs file);
  pins = λ range. let a = h.pins range in let b = k.pins range in omega arith;
  pinned = λ range p. let a = h.pins range in IsAtLeast-both (pinned_in u range) (pinned_in v range) (pinned_in w range) (h.pinned range p) (k.pinned range (omega arith));
}

-- a board with another tree and moved range, more of a log, and another table
pub KeepsMap-more : (v : MapView) (tree moves : Option ℕ) (file : ℕ) (more : List LogEntry) (new : MapView) → KeepsHeld v new →
    new ≡ record (with_more v file more) { hands = record { tree = tree; moves = moves; pins = v.hands.pins }; table = new.table } → KeepsMap v new
KeepsMap-more v tree moves file more new h e = subst (λ (m : MapView). KeepsMap v m) (sym e) (record {
  plain = refl;
  over = refl;
  guest = refl;
  may_take = refl;
  others = refl;
  pages = h.count;
  count = refl;
  files = length-log v.ranges.logs file (log_at v file ++ more);
  logs = λ j. Begins-log v.ranges.logs file j more;
  pins = λ range. omega arith;
  pinned = λ range p. IsAtLeast-same (pinned_in v range);
})

-- the same without more of a log
KeepsMap-hands : (v : MapView) (tree moves : Option ℕ) (new : MapView) → KeepsHeld v new →
    new ≡ record v { hands = record { tree = tree; moves = moves; pins = v.hands.pins }; table = new.table } → KeepsMap v new
KeepsMap-hands v tree moves new h e = subst (λ (m : MapView). KeepsMap v m) (sym e) (record {
  plain = refl;
  over = refl;
  guest = refl;
  may_take = refl;
  others = refl;
  pages = h.count;
  count = refl;
  files = refl;
  logs = λ j. Begins-same (log_at v j);
  pins = λ range. omega arith;
  pinned = λ range p. IsAtLeast-same (pinned_in v range);
})

pub KeepsMap-enter : (v : MapView) (file : ℕ) (new : MapView) → Enters v file new → KeepsMap v new
KeepsMap-enter v file new h = KeepsMap-more v (Some file) v.hands.moves file h.more new h.becomes.pages h.becomes.rest

pub KeepsMap-leave : (v new : MapView) → Leaves v new → KeepsMap v new
KeepsMap-leave v new h = KeepsMap-hands v None v.hands.moves new h.pages h.rest

pub KeepsMap-take : (v : MapView) (range : ℕ) (new : MapView) → Becomes v (taken v range) new → KeepsMap v new
KeepsMap-take v range new h = KeepsMap-more v v.hands.tree (Some range) (tree_of v) (removal (tree_slot v range)) new h.pages h.rest

pub KeepsMap-moves : (v : MapView) (moves : Option ℕ) (new : MapView) → Becomes v (with_moves v moves) new → KeepsMap v new
KeepsMap-moves v moves new h = KeepsMap-hands v v.hands.tree moves new h.pages h.rest
