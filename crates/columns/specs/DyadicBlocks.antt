-- Section 3.2 of document 004 (Misoczki and Barreto): the parity check matrix of a selection is made of t × t blocks, and block b is dyadic, with the
-- signature h_(blocks_b·t + (r ⊕ shifts_b)), r < t.
use Rattle.std.specs.Prelude.{◌≡◌, List, ℕ, ◌+◌, ◌*◌, ◌^◌, ◌<◌, length}
use Rattle.std.proofs.Math.Path.{sym, ap}
use Rattle.std.proofs.Common.{◌∙◌, subst, zero-mul, zero-add, div-lt_iff_lt-mul, arith}
use Rattle.algebra.specs.Lists.{entry_of}
use Rattle.algebra.specs.TabulateLaws.{get_d_tabulate}
use Rattle.algebra.specs.Xor.{◌⊕◌}
use Rattle.algebra.specs.XorLaws.{⊕-lt, ⊕_block, ⊕_assoc, zero-⊕}
use Rattle.field.specs.Gf.{gf}
use Rattle.dyadic.specs.Block.{matrix}
use Rattle.dyadic.specs.Matrix.{Same}
use Rattle.params.specs.declared.Parameters.{Parameters}
use Rattle.params.specs.Code.{Accepted}
use Rattle.parity.specs.Parity.{parity_signature}
use Rattle.parity.specs.Word.{parity_at}
use Rattle.columns.specs.Fits.{Chosen}
use Rattle.columns.specs.SelectionLaws.{block_at, selected_at, selected_inside, shifted_below, t_positive}
use Rattle.columns.specs.Choice.{Choice.selection, selected_column, all_columns}
use Rattle.columns.specs.ShiftedSignature.{shifted_signature}

-- a row below 2^f, added to a column, keeps to the column's block
in_block : (f a i x : ℕ) → i < 2 ^ f → x < 2 ^ f → i ⊕ (a * 2 ^ f + x) ≡ a * 2 ^ f + (i ⊕ x)
in_block f a i x li lx = simp (zero-mul, zero-add, zero-⊕) at (⊕_block f 0 a i x li lx)

module _ {c : Parameters} {h : List ℕ} (A : Accepted c h) {blocks shifts : List ℕ} (C : Chosen c blocks shifts) (b : ℕ) (lb : b < length blocks) where
  place_inside : {r : ℕ} → r < c.t → b * c.t + r < length blocks * c.t
  place_inside {r} l =
      (div-lt_iff_lt-mul (t_positive A)).0 (subst (λ (q : ℕ). q < length blocks) (sym (block_at (t_positive A) b l)) lb)

  -- the column at place r of block b
  pub block_column : {r : ℕ} → r < c.t
      → entry_of (all_columns c (selection blocks shifts)) (b * c.t + r) ≡ entry_of blocks b * c.t + (r ⊕ entry_of shifts b)
  unfolding all_columns
  block_column {r} l =
      get_d_tabulate (length blocks * c.t) (selected_column c.t blocks shifts) (b * c.t + r) 0 (place_inside l)
      ∙ selected_at (t_positive A) blocks shifts b l

  column_inside : {r : ℕ} → r < c.t → entry_of blocks b * c.t + (r ⊕ entry_of shifts b) < c.n
  column_inside {r} l =
      subst (λ (j : ℕ). j < c.n) (selected_at (t_positive A) blocks shifts b l) (selected_inside A C (b * c.t + r) (place_inside l))

  -- in row i that column has the entry that the block's signature has at i ⊕ r
  index_shifted : (i r : ℕ) → i < c.t → r < c.t
      → i ⊕ (entry_of blocks b * c.t + (r ⊕ entry_of shifts b)) ≡ entry_of blocks b * c.t + ((i ⊕ r) ⊕ entry_of shifts b)
  index_shifted i r li lr =
      subst (λ (t : ℕ). i < t → r ⊕ entry_of shifts b < t → i ⊕ (entry_of blocks b * t + (r ⊕ entry_of shifts b))
      ≡ entry_of blocks b * t + (i ⊕ (r ⊕ entry_of shifts b))) (sym A.limits.t_power)
      (in_block A.limits.f (entry_of blocks b) i (r ⊕ entry_of shifts b)) li (shifted_below A C lr lb)
      ∙ ap (λ (x : ℕ). entry_of blocks b * c.t + x) (sym (⊕_assoc i r (entry_of shifts b)))

  sum_below : (i r : ℕ) → i < c.t → r < c.t → i ⊕ r < c.t
  sum_below i r = subst (λ (t : ℕ). i < t → r < t → i ⊕ r < t) (sym A.limits.t_power) (⊕-lt A.limits.f i r)

  pub block_dyadic : Same c.t (λ i r. parity_at c h i (entry_of (all_columns c (selection blocks shifts)) (b * c.t + r)))
      (matrix (gf c.m) (shifted_signature c h blocks shifts b))
  unfolding matrix shifted_signature
  block_dyadic i r li lr =
      ap (parity_at c h i) (block_column lr)
      ∙ parity_signature A i (entry_of blocks b * c.t + (r ⊕ entry_of shifts b)) (omega (arith, A.limits.t_high)) (column_inside lr)
      ∙ ap (entry_of h) (index_shifted i r li lr)
      ∙ sym (get_d_tabulate c.t (λ r. entry_of h (entry_of blocks b * c.t + (r ⊕ entry_of shifts b))) (i ⊕ r) 0 (sum_below i r li lr))
