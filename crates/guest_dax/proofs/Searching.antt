-- A search for a range: what it leaves of the board.
use Rattle.std.proofs.Common.{◌≡◌, ◌≢◌, ◌∙◌, ap, sym, refl, subst, ℕ, ◌<◌, ◌==◌, Bool, true, false, length, get_or, Option, None, Some, arith}
use Rattle.std.specs.Prelude.{IsSome, ◌⊎◌}
use Rattle.std.proofs.Common.{inl, inr}
use Rattle.std.proofs.lemmas.List.{get_or-set_other}
use Rattle.std.proofs.lemmas.Grind.{common_steps, elements}
use Rattle.page_map.specs.declared.ranges.RangeWord.{RangeWord}
use Rattle.page_map.specs.declared.ranges.RangeWord.TheVariants as words
use Rattle.page_map.specs.declared.pages.Mode.{Mode}
use Rattle.page_map.specs.Board.{MapView, Noted}
use Rattle.range_tree.specs.Ranges.{pins_on, pins_in, look_at, Sees, looked, Looks, Leaves, Enters, is_blocked, is_noted_blocked}
use Rattle.guest_dax.specs.Stands.{KeepsMap}
use Rattle.std.specs.Prelude.{Ok, Err}
use Rattle.page_map.specs.Board.{Hands, log_at}
use Rattle.range_tree.specs.Ranges.{Takes, IsTaken, IsRefused, names_file, is_of_file}
use Rattle.guest_dax.specs.declared.attempts.Attempt.{Attempt}
use Rattle.guest_dax.specs.declared.attempts.Attempt.TheVariants as attempts
use Rattle.guest_dax.specs.Looks.{Blocks, IsBlocked}
use Rattle.guest_dax.specs.Reclaims.{Searches, Comes, Attempted, Parts, EndsRemoved, moving}
use Rattle.guest_dax.proofs.Removing.{removed-under, EndsRemoved-after}
use Rattle.range_tree.specs.Ranges.{tree_of}
use Rattle.guest_dax.proofs.Keeping.{KeepsMap-same, KeepsMap-both, KeepsMap-enter, KeepsMap-leave, KeepsMap-take}

-- a word that is seen by a board that moves nothing
pub Blocks-seen : (v : MapView) (range : ℕ) (word : RangeWord) → v.hands.moves ≡ None → Sees v range word → is_blocked word ≡ true → Blocks v (pins_on v range) word
unfolding is_blocked pins_in
Blocks-seen v range words.Free none s b = cc
Blocks-seen v range (words.Moving guest) none s b =
    let mine : guest ≢ v.ranges.guest = λ e. let m : v.hands.moves ≡ Some range = s.own (ap (λ g. words.Moving g) e) in cc in
    (mine, not-false v.ranges.others (λ e. mine ((s.alone e).mover guest refl)))
  where
    not-false : (b : Bool) → (b ≡ false → ⊥) → b ≡ true
    not-false true h = refl
    not-false false h = absurd (h refl)
Blocks-seen v range (words.Mapped file chunk mode pins) none s b =
    let some : 0 < pins = grind (arith, common_steps, b) in
    (some, s.pins, λ e. (s.alone e).pins)

pub Searches-same : (v : MapView) (range : ℕ) → Searches v range v
Searches-same v range = record { keeps = KeepsMap-same v; looks = refl; other = λ r h. refl; sweeps = refl; rounds = refl }

pub Searches-both : (u : MapView) (range : ℕ) (v w : MapView) → Searches u range v → Searches v range w → Searches u range w
Searches-both u range v w h k = record {
  keeps = KeepsMap-both u v w h.keeps k.keeps;
  looks = k.looks ∙ h.looks;
  other = λ r n. k.other r n ∙ h.other r n;
  sweeps = k.sweeps ∙ h.sweeps;
  rounds = k.rounds ∙ h.rounds;
}

pub Searches-looked : (v : MapView) (range : ℕ) (word : RangeWord) → Searches v range (looked v range word)
Searches-looked v range word =
    let same : KeepsMap v v = KeepsMap-same v in
    record {
      keeps = record { plain = refl; over = refl; guest = refl; may_take = refl; others = refl; pages = refl; count = refl; files = refl; logs = same.logs; pins = same.pins; pinned = same.pinned };
      looks = grind (arith, common_steps);
      other = λ r n. get_or-set_other v.ranges.looks range r (Some (record { word = word; own = pins_on v range })) None n;
      sweeps = refl;
      rounds = refl;
    }

-- what is noted is there
pub look_at-looked : (v : MapView) (range : ℕ) (word : RangeWord) → range < length v.ranges.looks → look_at (looked v range word) range ≡ Some (record { word = word; own = pins_on v range })
look_at-looked v range word h = grind (arith, elements)

-- a board whose looks and counts stayed
pub Searches-kept : (v : MapView) (range : ℕ) (w : MapView) → KeepsMap v w → w.ranges.looks ≡ v.ranges.looks → w.ranges.sweeps ≡ v.ranges.sweeps → w.ranges.rounds ≡ v.ranges.rounds → Searches v range w
Searches-kept v range w keeps looks sweeps rounds = record {
  keeps = keeps;
  looks = ap length looks;
  other = λ r n. ap (λ l. get_or l r None) looks;
  sweeps = sweeps;
  rounds = rounds;
}

-- ---- one attempt

pub Searches-look : (v : MapView) (range : ℕ) (word : RangeWord) (w : MapView) → Looks v range word w → Searches v range w
Searches-look v range word w l = subst (λ m. Searches v range m) (sym l.noted) (Searches-looked v range word)

pub taken-ok : (v : MapView) (range : ℕ) (u : Unit {0}) (w : MapView) → Takes v range (Ok u) w → IsTaken v range w
unfolding Takes
taken-ok v range u w h = h

pub refused-err : (v : MapView) (range : ℕ) (word : RangeWord) (w : MapView) → Takes v range (Err word) w → IsRefused v range word w
unfolding Takes
refused-err v range word w h = h

-- a range is taken whose noted look shows that it isn't blocked
pub Searches-take : (v : MapView) (range : ℕ) (w : MapView) → IsTaken v range w → Searches v range w
Searches-take v range w t = Searches-kept v range w (KeepsMap-take v range w t.becomes) (ap (λ (m : MapView). m.ranges.looks) t.becomes.rest) (ap (λ (m : MapView). m.ranges.sweeps) t.becomes.rest) (ap (λ (m : MapView). m.ranges.rounds) t.becomes.rest)

pub Attempted-took : (v : MapView) (range : ℕ) (w : MapView) → IsTaken v range w → is_noted_blocked (look_at v range) ≡ false → Attempted v range attempts.Took w
Attempted-took v range w t seen = (
  Searches-take v range w t,
  (ap (λ (m : MapView). m.hands) t.becomes.rest, t.unpinned, ap (λ (m : MapView). is_noted_blocked (look_at m range)) t.becomes.rest ∙ seen),
)

-- a range is blocked that is seen so
pub Attempted-blocked : (v : MapView) (range : ℕ) (word : RangeWord) (w : MapView) → range < length v.ranges.looks → v.hands.moves ≡ None → Looks v range word w → is_blocked word ≡ true → Attempted v range attempts.Blocked w
Attempted-blocked v range word w within none l b = (
  Searches-look v range word w l,
  (
    ap (λ (m : MapView). m.hands) l.noted,
    record {
      noted = record { word = word; own = pins_on v range };
      at = ap (λ (m : MapView). look_at m range) l.noted ∙ look_at-looked v range word within;
      own = refl;
      blocks = Blocks-seen v range word none l.seen b;
    },
  ),
)

is-some : {X : Type 0} (o : Option X) (x : X) → o ≡ Some x → IsSome o
is-some o x e = subst (λ o. IsSome o) (sym e) refl

pub Attempted-again : (v : MapView) (range : ℕ) (word : RangeWord) (w : MapView) → range < length v.ranges.looks → Looks v range word w → Attempted v range attempts.Again w
Attempted-again v range word w within l = (
  Searches-look v range word w l,
  (ap (λ (m : MapView). m.hands) l.noted, is-some (look_at w range) (record { word = word; own = pins_on v range }) (ap (λ (m : MapView). look_at m range) l.noted ∙ look_at-looked v range word within)),
)

-- what a word says that refused a take
refused-by : (b : Bool) (v : MapView) (range : ℕ) (word : RangeWord) (attempt : Attempt) (w : MapView) → is_blocked word ≡ b → range < length v.ranges.looks → v.hands.moves ≡ None → Looks v range word w →
    (is_blocked word ≡ true → attempt ≡ attempts.Blocked) → (is_blocked word ≡ false → attempt ≡ attempts.Again) → Attempted v range attempt w
refused-by true v range word attempt w b within none l blocked again = subst (λ (a : Attempt). Attempted v range a w) (sym (blocked b)) (Attempted-blocked v range word w within none l b)
refused-by false v range word attempt w b within none l blocked again = subst (λ (a : Attempt). Attempted v range a w) (sym (again b)) (Attempted-again v range word w within l)

pub Attempted-refused : (v : MapView) (range : ℕ) (word : RangeWord) (attempt : Attempt) (w : MapView) → range < length v.ranges.looks → v.hands.moves ≡ None → Looks v range word w →
    (is_blocked word ≡ true → attempt ≡ attempts.Blocked) → (is_blocked word ≡ false → attempt ≡ attempts.Again) → Attempted v range attempt w
Attempted-refused v range word attempt w = refused-by (is_blocked word) v range word attempt w refl

-- what blocks a board blocks the one that it came from
pub blocks-same : (u v : MapView) (own : ℕ) (word : RangeWord) → KeepsMap u v → Blocks v own word → Blocks u own word
blocks-same u v own words.Free s b = b
blocks-same u v own (words.Moving guest) s (a, b) = (λ e. a (e ∙ sym s.guest), sym s.others ∙ b)
blocks-same u v own (words.Mapped file chunk mode pins) s (a, b, d) = (a, b, λ e. d (s.others ∙ e))

pub IsBlocked-same : (u v w x : MapView) (range : ℕ) → KeepsMap u v → pins_on v range ≡ pins_on u range → look_at x range ≡ look_at w range → IsBlocked v w range → IsBlocked u x range
IsBlocked-same u v w x range k e l b = record {
  noted = b.noted;
  at = l ∙ b.at;
  own = b.own ∙ e;
  blocks = blocks-same u v b.noted.own b.noted.word k b.blocks;
}

-- the hands and looks that an attempt begins with come from a look before it
Comes-after : (u v : MapView) (range : ℕ) (attempt : Attempt) (w : MapView) → Searches u range v → v.hands ≡ u.hands → Comes v range attempt w → Comes u range attempt w
Comes-after u v range attempts.Took w s e (h, free, seen) = (h ∙ ap (λ (k : Hands). record k { moves = Some range }) e, ap (λ (k : Hands). get_or k.pins range 0) (sym e) ∙ free, seen)
Comes-after u v range (attempts.Removed file) w s e (h, within, free, seen, removed) = (h ∙ ap (λ (k : Hands). record k { tree = Some file; moves = Some range }) e, subst (λ n. file < n) s.keeps.files within, ap (λ (k : Hands). get_or k.pins range 0) (sym e) ∙ free, seen, EndsRemoved-after u v w file range (s.keeps.logs file) removed)
Comes-after u v range attempts.Blocked w s e (h, b) = (
  h ∙ e,
  record {
    noted = b.noted;
    at = b.at;
    own = b.own ∙ ap (λ (k : Hands). get_or k.pins range 0) e;
    blocks = blocks-same u v b.noted.own b.noted.word s.keeps b.blocks;
  },
)
Comes-after u v range attempts.Again w s e (h, b) = (h ∙ e, b)

pub Attempted-after : (u v : MapView) (range : ℕ) (attempt : Attempt) (w : MapView) → Searches u range v → v.hands ≡ u.hands → Attempted v range attempt w → Attempted u range attempt w
Attempted-after u v range attempt w s e (k, c) = (Searches-both u range v w s k, Comes-after u v range attempt w s e c)

-- a look leaves the hands
pub hands-look : (v : MapView) (range : ℕ) (word : RangeWord) (w : MapView) → Looks v range word w → w.hands ≡ v.hands
hands-look v range word w l = ap (λ (m : MapView). m.hands) l.noted

-- a range that is seen free isn't blocked
pub free-unblocked : (v : MapView) (range : ℕ) (w : MapView) → range < length v.ranges.looks → Looks v range words.Free w → is_noted_blocked (look_at w range) ≡ false
unfolding is_noted_blocked is_blocked
free-unblocked v range w within l = ap (λ (m : MapView). is_noted_blocked (look_at m range)) l.noted ∙ ap is_noted_blocked (look_at-looked v range words.Free within)

-- ---- an attempt under a tree

pub Searches-enter : (v : MapView) (file range : ℕ) (w : MapView) → Enters v file w → Searches v range w
Searches-enter v file range w h =
    let e = h.becomes.rest in
    Searches-kept v range w (KeepsMap-enter v file w h) (ap (λ (m : MapView). m.ranges.looks) e) (ap (λ (m : MapView). m.ranges.sweeps) e) (ap (λ (m : MapView). m.ranges.rounds) e)

pub Searches-leave : (v : MapView) (range : ℕ) (w : MapView) → Leaves v w → Searches v range w
Searches-leave v range w h =
    let e = h.rest in
    Searches-kept v range w (KeepsMap-leave v w h) (ap (λ (m : MapView). m.ranges.looks) e) (ap (λ (m : MapView). m.ranges.sweeps) e) (ap (λ (m : MapView). m.ranges.rounds) e)

pub hands-enter : (v : MapView) (file : ℕ) (w : MapView) → Enters v file w → w.hands ≡ record v.hands { tree = Some file }
hands-enter v file w h = ap (λ (m : MapView). m.hands) h.becomes.rest

pub hands-leave : (v w : MapView) → Leaves v w → w.hands ≡ record v.hands { tree = None }
hands-leave v w h = ap (λ (m : MapView). m.hands) h.rest

pub looks-enter : (v : MapView) (file : ℕ) (w : MapView) → Enters v file w → w.ranges.looks ≡ v.ranges.looks
looks-enter v file w h = ap (λ (m : MapView). m.ranges.looks) h.becomes.rest

pub looks-leave : (v w : MapView) → Leaves v w → w.ranges.looks ≡ v.ranges.looks
looks-leave v w h = ap (λ (m : MapView). m.ranges.looks) h.rest

no-tree : (h : Hands) → h.tree ≡ None → record h { tree = None } ≡ h
no-tree h e = ap (λ (t : Option ℕ). record h { tree = t }) (sym e)

-- a range was taken under a tree
pub Attempted-removed : (u : MapView) (file range : ℕ) (v w : MapView) → file < length u.ranges.logs → Enters u file v → IsTaken v range w → is_noted_blocked (look_at u range) ≡ false → EndsRemoved u w file range → Attempted u range (attempts.Removed file) w
Attempted-removed u file range v w within enters t seen removed =
    let he = hands-enter u file v enters in
    let e = t.becomes.rest in (
      Searches-both u range v w (Searches-enter u file range v enters) (Searches-take v range w t),
      (
        ap (λ (m : MapView). m.hands) e ∙ ap (λ (k : Hands). record k { moves = Some range }) he,
        within,
        ap (λ (k : Hands). get_or k.pins range 0) (sym he) ∙ t.unpinned,
        ap (λ (m : MapView). is_noted_blocked (look_at m range)) e ∙ ap (λ l. is_noted_blocked (get_or l range None)) (looks-enter u file v enters) ∙ seen,
        removed,
      ),
    )

-- it was free then, and the tree was given back
pub Attempted-free : (u : MapView) (file range : ℕ) (v w x : MapView) → u.hands.tree ≡ None → file < length u.ranges.logs → Enters u file v → IsTaken v range w → Leaves w x → is_noted_blocked (look_at u range) ≡ false → Attempted u range attempts.Took x
Attempted-free u file range v w x none within enters t leaves seen =
    let he = hands-enter u file v enters in
    let e = t.becomes.rest in (
      Searches-both u range w x (Searches-both u range v w (Searches-enter u file range v enters) (Searches-take v range w t)) (Searches-leave w range x leaves),
      (
        hands-leave w x leaves ∙ ap (λ (m : MapView). record m.hands { tree = None }) e ∙ ap (λ (k : Hands). record k { moves = Some range; tree = None }) he ∙ no-tree (moving u range) none,
        ap (λ (k : Hands). get_or k.pins range 0) (sym he) ∙ t.unpinned,
        ap (λ l. is_noted_blocked (get_or l range None)) (looks-leave w x leaves) ∙ ap (λ (m : MapView). is_noted_blocked (look_at m range)) e ∙ ap (λ l. is_noted_blocked (get_or l range None)) (looks-enter u file v enters) ∙ seen,
      ),
    )

-- a take was refused under a tree, which was given back
pub Attempted-left : (u : MapView) (file range : ℕ) (v : MapView) (attempt : Attempt) (w x : MapView) → u.hands.tree ≡ None → Enters u file v → (attempt ≡ attempts.Blocked) ⊎ (attempt ≡ attempts.Again) → Attempted v range attempt w → Leaves w x → Attempted u range attempt x
Attempted-left u file range v attempt w x none enters which done leaves =
    let he = hands-enter u file v enters in
    let front = Searches-enter u file range v enters in
    elim which [
      | inl blocked ↦
          let (s, (h, b)) = subst (λ (a : Attempt). Attempted v range a w) blocked done in
          subst (λ (a : Attempt). Attempted u range a x) (sym blocked) (
            Searches-both u range v x front (Searches-both v range w x s (Searches-leave w range x leaves)),
            (
              hands-leave w x leaves ∙ ap (λ (k : Hands). record k { tree = None }) (h ∙ he) ∙ no-tree u.hands none,
              IsBlocked-same u v w x range front.keeps (ap (λ (k : Hands). get_or k.pins range 0) he) (ap (λ l. get_or l range None) (looks-leave w x leaves)) b,
            ),
          )
      | inr again ↦
          let (s, (h, b)) = subst (λ (a : Attempt). Attempted v range a w) again done in
          subst (λ (a : Attempt). Attempted u range a x) (sym again) (
            Searches-both u range v x front (Searches-both v range w x s (Searches-leave w range x leaves)),
            (
              hands-leave w x leaves ∙ ap (λ (k : Hands). record k { tree = None }) (h ∙ he) ∙ no-tree u.hands none,
              subst (λ (o : Option Noted). IsSome o) (sym (ap (λ l. get_or l range None) (looks-leave w x leaves))) b,
            ),
          )
    ]

-- such a word says one of both
pub refused-one : (word : RangeWord) (attempt : Attempt) → (is_blocked word ≡ true → attempt ≡ attempts.Blocked) → (is_blocked word ≡ false → attempt ≡ attempts.Again) → (attempt ≡ attempts.Blocked) ⊎ (attempt ≡ attempts.Again)
refused-one word attempt b a = elim (true_or (is_blocked word)) [ inl e ↦ inl (b e) | inr e ↦ inr (a e) ]
  where
    true_or : (b : Bool) → (b ≡ true) ⊎ (b ≡ false)
    true_or true = inl refl
    true_or false = inr refl

pub Attempted-parts : (u : MapView) (file range before : ℕ) (v w : MapView) (attempt : Attempt) (x : MapView) → u.hands.tree ≡ None → file < length u.ranges.logs → Enters u file v → IsTaken v range w → before ≡ length (log_at v (tree_of v)) → Parts file before w attempt x → is_noted_blocked (look_at u range) ≡ false → Attempted u range attempt x
Attempted-parts u file range before v w attempts.Took x none within enters takes was leaves seen = Attempted-free u file range v w x none within enters takes leaves seen
Attempted-parts u file range before v w (attempts.Removed f) x none within enters takes was (e, d, longer) seen =
    subst (λ g. Attempted u range (attempts.Removed g) x) (sym e) (subst (λ m. Attempted u range (attempts.Removed file) m) (sym d) (Attempted-removed u file range v w within enters takes seen (removed-under u file range before v w within enters takes was longer)))
Attempted-parts u file range before v w attempts.Blocked x none within enters takes was p seen = absurd p
Attempted-parts u file range before v w attempts.Again x none within enters takes was p seen = absurd p

-- a range that is seen mapped without pins isn't blocked
pub mapped-unblocked : (v : MapView) (range : ℕ) (word : RangeWord) (w : MapView) → range < length v.ranges.looks → Looks v range word w → is_blocked word ≡ false → is_noted_blocked (look_at w range) ≡ false
unfolding is_noted_blocked
mapped-unblocked v range word w within l b = ap (λ (m : MapView). is_noted_blocked (look_at m range)) l.noted ∙ ap is_noted_blocked (look_at-looked v range word within) ∙ b

-- a word that names a file
pub names-file : (v : MapView) (range : ℕ) (word : RangeWord) (file : ℕ) → Sees v range word → is_of_file file word ≡ true → file < length v.ranges.logs
unfolding names_file is_of_file
names-file v range words.Free file s e = cc
names-file v range (words.Moving guest) file s e = cc
names-file v range (words.Mapped f chunk mode pins) file s e =
    let n = s.names in
    grind (arith, common_steps, e, n)

pub unpinned-unblocked : (v : MapView) (range file chunk : ℕ) (mode : Mode) (pins : ℕ) (w : MapView) → range < length v.ranges.looks → Looks v range (words.Mapped file chunk mode pins) w → pins ≡ 0 → is_noted_blocked (look_at w range) ≡ false
unfolding is_blocked
unpinned-unblocked v range file chunk mode pins w within l none =
    let b : is_blocked (words.Mapped file chunk mode pins) ≡ false = rw none refl in
    mapped-unblocked v range (words.Mapped file chunk mode pins) w within l b

eqb-same : (n : ℕ) → (n == n) ≡ true
eqb-same n = grind (arith, common_steps)

pub mapped-file : (v : MapView) (range file chunk : ℕ) (mode : Mode) (pins : ℕ) (w : MapView) → Looks v range (words.Mapped file chunk mode pins) w → file < length w.ranges.logs
unfolding is_of_file
mapped-file v range file chunk mode pins w l = subst (λ (m : MapView). file < length m.ranges.logs) (sym l.noted) (names-file v range (words.Mapped file chunk mode pins) file l.seen (eqb-same file))

pub had-tree : (tree : Option ℕ) (file : ℕ) → tree ≡ Some file → IsSome tree
had-tree tree file e = subst (λ (t : Option ℕ). IsSome t) (sym e) refl
