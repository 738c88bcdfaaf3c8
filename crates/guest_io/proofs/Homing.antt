-- What a guest rests on holds after what it does to its chunks and its files.
use Rattle.std.proofs.Common.{◌≡◌, ◌∙◌, ap, sym, subst, ℕ, true, length, Option, Result, Ok, Err, List}
use mathlib.Core.Logic.{dite}
use native.Mathlib.Decide.{ℕ_discrete}
use Rattle.plain_file.specs.declared.operations.Op.{Op}
use Rattle.plain_file.specs.declared.operations.Way.{Way}
use Rattle.plain_file.specs.declared.refusals.Memory.{Memory}
use Rattle.plain_file.specs.Board.{FileView, FileHands, BoardView, IsReady}
use Rattle.plain_file.specs.Sound.{IsSoundBoard}
use Rattle.page_map.specs.Board.{MapView}
use Rattle.guest_wire.specs.Wires.{WireView}
use Rattle.guest_wire.specs.declared.driver.FileRef.{FileRef}
use Rattle.guest_dax.specs.Stands.{Stand, stand, Keeps}
use Rattle.guest_dax.specs.declared.pins.Pinned.{Pinned}
use Rattle.guest_dax.proofs.Walking.{Stands-keeps}
use Rattle.guest_io.specs.declared.calls.Done.{Done}
use Rattle.guest_io.specs.Calls.{OthersStay}
use Rattle.guest_io.specs.Chunks.{AppliesDirect, IsGivenBack}
use Rattle.guest_io.specs.Requests.{IsHome}
use Rattle.guest_io.specs.Going.{StaysBoard}

pub IsHome-keeps : (s t : Stand) (refs : List FileRef) → Keeps s t → IsHome s refs → IsHome t refs
IsHome-keeps s t refs k h = record {
  stands = Stands-keeps s t refs k h.stands;
  plain = λ honest whole. k.files.plain ∙ h.plain (sym k.wire.honest ∙ honest) (sym k.wire.stays ∙ whole);
}

-- what of a board of files is as before, for a guest that rests on it
pub record RestsAs (old new : BoardView) : Type 0 where
  pub plain : new.plain ≡ old.plain
  pub count : length new.files ≡ length old.files
  pub turn : new.hands.turn ≡ old.hands.turn
  pub ready : (f : ℕ) → old.plain ≡ true → IsReady old f → IsReady new f

pub IsHome-rests : (wire : WireView) (old : BoardView) (map : MapView) (refs : List FileRef) (new : BoardView) → RestsAs old new → IsHome (stand wire old map) refs → IsHome (stand wire new map) refs
IsHome-rests wire old map refs new k h = record {
  stands = record {
    refs_of = h.stands.refs_of ∙ sym k.count;
    logs = h.stands.logs ∙ sym k.count;
    may_take = h.stands.may_take;
    turn = k.turn ∙ h.stands.turn;
    serving = λ honest.
        let s = h.stands.serving honest in
        record {
          there = rw k.count s.there;
          pages = s.pages;
          started = s.started;
          ready = λ whole f within. k.ready f (h.plain honest whole) (s.ready whole f within);
          nodes = s.nodes;
          handles = s.handles;
        };
  };
  plain = λ honest whole. k.plain ∙ h.plain honest whole;
}

IsHome-map : (wire : WireView) (files : BoardView) (map map' : MapView) (refs : List FileRef) → length map'.ranges.logs ≡ length map.ranges.logs → map'.ranges.may_take ≡ map.ranges.may_take → length map'.table ≡ length map.table → IsHome (stand wire files map) refs → IsHome (stand wire files map') refs
IsHome-map wire files map map' refs logs may pages h = record {
  stands = record {
    refs_of = h.stands.refs_of;
    logs = logs ∙ h.stands.logs;
    may_take = may ∙ h.stands.may_take;
    turn = h.stands.turn;
    serving = λ honest.
        let s = h.stands.serving honest in
        record { there = s.there; pages = pages ∙ s.pages; started = s.started; ready = s.ready; nodes = s.nodes; handles = s.handles };
  };
  plain = h.plain;
}

others-direct : (old : BoardView) (file call : ℕ) (way : Way) (op : Op) (result : Result Done Memory) (new : BoardView) → AppliesDirect old file call way op result new → OthersStay old file new
others-direct old file call way op (Ok d) new a = a.0.others
others-direct old file call way op (Err e) new a = a.stay

ready-after : (old : BoardView) (file : ℕ) (new : BoardView) (f : ℕ) → OthersStay old file new → new.plain ≡ true → IsSoundBoard new file → IsReady old f → IsReady new f
ready-after old file new f others plain sound ready =
    dite (ℕ_discrete f file)
    (λ e. subst (λ n. IsReady new n) (sym e) (sound.sound.ready plain))
    (λ else. ap (λ (x : FileView). x.ready) (others f else) ∙ ready)

rests-direct : (old : BoardView) (file call : ℕ) (way : Way) (op : Op) (result : Result Done Memory) (new : BoardView) → AppliesDirect old file call way op result new → StaysBoard old new → IsSoundBoard new file → RestsAs old new
rests-direct old file call way op result new a k sound = record {
  plain = k.plain;
  count = k.count;
  turn = ap (λ (x : FileHands). x.turn) k.hands;
  ready = λ f plain ready. ready-after old file new f (others-direct old file call way op result new a) (k.plain ∙ plain) sound ready;
}

pub IsHome-direct : (wire : WireView) (old : BoardView) (map : MapView) (refs : List FileRef) (file call : ℕ) (way : Way) (op : Op) (result : Result Done Memory) (new : BoardView) (first : Pinned) (second : Option Pinned) (map' : MapView) → AppliesDirect old file call way op result new → StaysBoard old new → IsSoundBoard new file → IsGivenBack map first second map' → IsHome (stand wire old map) refs → IsHome (stand wire new map') refs
IsHome-direct wire old map refs file call way op result new first second map' a k sound back h =
    IsHome-map wire new map map' refs (ap (λ (m : MapView). length m.ranges.logs) back) (ap (λ (m : MapView). m.ranges.may_take) back) (ap (λ (m : MapView). length m.table) back)
    (IsHome-rests wire old map refs new (rests-direct old file call way op result new a k sound) h)
