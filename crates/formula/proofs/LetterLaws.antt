-- What the evaluators know of what the letters stand for, and of blocks that have its length.
use mathlib.Core.Path.{◌≡◌, sym, ◌∙◌, subst}
use mathlib.Core.List.{List}
use Prim.Native.Nat.{ℕ}
use lib.ListN.{length}
use Rattle.slices.specs.Elements.{Elements}
use Rattle.slices.specs.LengthLaws.{power_is}
use Rattle.slices.proofs.Room.{lent_front, Filled}
use Rattle.dyadic.specs.Callers.{Factors}
use Rattle.formula.specs.declared.values.Letters.{Letters}
use Rattle.formula.specs.Lending.{lent}
use Rattle.formula.specs.Callers.{Ready}
use Rattle.formula.proofs.Found.{resized}

pub ready_of : (L : Letters) {n : ℕ} → n ≡ L.size → Ready L.m (lent L.blocks) n
ready_of L e =
    let (log, short, power) = power_is L.size L.power in
    resized (record { width = L.width; log = log; power = power; room = L.room; sized = L.sized; elements = L.elements }) e

-- a value and what was read into the front of the room can be multiplied
pub factors : (L : Letters) {a other : List ℕ} → length a ≡ L.size → Filled (length a) other → Elements L.m a → Elements L.m other
    → Factors L.m a (lent_front (length a) other) a
factors L {a} {other} e room ia io =
    let R = ready_of L e in
    record {
      width = R.width;
      log = R.log;
      length_a = R.power;
      short = R.room;
      length_b = room.length_front ∙ R.power;
      length_out = R.power;
      elements_a = ia;
      elements_b = subst (Elements L.m) (sym room.front) io;
    }
