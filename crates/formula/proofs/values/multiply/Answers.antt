-- `multiply` meets its contract: the block is copied aside, and what is then added to the cleared buffer is the product.
use mathlib.Core.Path.{◌≡◌, ap, ◌∙◌}
use mathlib.Core.List.{List}
use Prim.Native.Nat.{ℕ}
use lib.ListN.{length, take, replicate}
use Rattle.field.specs.Gf.{gf}
use Rattle.dyadic.specs.Block.{block_sum, block_product}
use Rattle.dyadic.specs.Callers.{Factors}
use Rattle.dyadic.proofs.Adding.{into_cleared}
use Rattle.slices.proofs.Room.{zeros, lent_front, filled}
use Rattle.formula.proofs.values.multiply.Goals as goal

-- the copy's product, added to the cleared buffer
copied_product : {m : ℕ} {a b copy zeros written : List ℕ} → Factors m a b a → copy ≡ a → zeros ≡ replicate (length a) 0
    → written ≡ block_sum (gf m) zeros (block_product (gf m) copy b) → written ≡ block_product (gf m) a b
copied_product {m} {a} {b} {copy} {zeros} f e z w = into_cleared f z (w ∙ ap (λ (x : List ℕ). block_sum (gf m) zeros (block_product (gf m) x b)) e)

-- the block of a, copied to the front of the room
aside : {m : ℕ} {a b block : List ℕ} → Factors m a b a → length block ≡ length (take (length a) zeros) → block ≡ a → lent_front (length a) block ≡ a
aside f kept copied = (filled f.short kept).front ∙ copied

pub returns-clause-value_after : goal.returns-clause-value_after
returns-clause-value_after c =
    copied_product c.requires (aside c.requires c.copy_from_slice.auto.self c.copy_from_slice.ensures.after) (c.fill.ensures.after (λ y is. is)) c.add_by_halves.ensures.out_after
