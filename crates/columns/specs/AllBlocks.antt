-- The selection of all blocks in order with no shifts is a selection of the code, and has the columns of the whole code.
use Rattle.std.specs.Prelude.{◌≡◌, List, ℕ, ◌+◌, ◌-◌, ◌*◌, ◌/◌, ◌%◌, ◌^◌, ◌<◌, ◌≤◌}
use Rattle.std.proofs.Common.{sym, ◌∙◌, one-mul, le_of_eq, sub-add_cancel, div-lt_iff_lt-mul, le-div_iff_mul-le, arith, pow-add}
use Rattle.std.proofs.Math.Path.{ap, ap₂}
use Rattle.std.proofs.Math.Nat.{div-add-mod'}
use Rattle.std.proofs.Math.Decide.{dec_le}
use Rattle.std.proofs.Math.Pow.{pow-lt}
use Rattle.std.proofs.lemmas.Nat.{shl-shr}
use Rattle.algebra.specs.Lists.{entry_of}
use Rattle.algebra.specs.Tabulate.{tabulate}
use Rattle.algebra.specs.TabulateLaws.{length-tabulate, get_d_tabulate, tabulate_cong}
use Rattle.algebra.specs.Xor.{◌⊕◌}
use Rattle.algebra.specs.XorLaws.{⊕-zero}
use Rattle.params.specs.declared.Parameters.{Parameters}
use Rattle.params.specs.Code.{Accepted}
use Rattle.parity.specs.Selected.{length_whole, whole_selected}
use Rattle.parity.specs.Word.{whole}
use Rattle.columns.specs.AllOf.{all_blocks}
use Rattle.columns.specs.Fits.{ChoiceFits}
use Rattle.columns.specs.SelectionLaws.{t_positive}
use Rattle.columns.specs.Choice.{Choice.whole_code, selected_column, all_places, all_columns}

-- a power of two that is no less than another is a multiple of it
quotient_back : (e f : ℕ) → 2 ^ f ≤ 2 ^ e → 2 ^ e / 2 ^ f * 2 ^ f ≡ 2 ^ e
quotient_back e f l = ap (λ (x : ℕ). x / 2 ^ f * 2 ^ f) multiple ∙ ap (λ (q : ℕ). q * 2 ^ f) (shl-shr (2 ^ (e - f)) f) ∙ sym multiple
  where
    ordered : Dec (f ≤ e) → f ≤ e
    ordered (yes fe) = fe
    ordered (no nfe) =
        let more : 2 ^ e < 2 ^ f = pow-lt (omega arith) in
        omega arith

    multiple : 2 ^ e ≡ 2 ^ (e - f) * 2 ^ f
    multiple = ap (λ (k : ℕ). 2 ^ k) (sym (sub-add_cancel (ordered (dec_le f e)))) ∙ pow-add 2 (e - f) f

module _ {c : Parameters} {h : List ℕ} (A : Accepted c h) where
  t_below : c.t ≤ c.n
  t_below = omega (arith, A.limits.t_high)

  -- the blocks fill the code
  blocks_fill : c.n / c.t * c.t ≡ c.n
  blocks_fill =
      rw (A.limits.n_power, A.limits.t_power)
      (quotient_back A.limits.e A.limits.f (rw (A.limits.n_power, A.limits.t_power) at t_below))

  no_shift : (b : ℕ) → b < c.n / c.t → entry_of (tabulate (c.n / c.t) (λ b. 0)) b ≡ 0
  no_shift b l = get_d_tabulate (c.n / c.t) (λ b. 0) b 0 l

  pub all_fit : ChoiceFits c (all_blocks c)
  all_fit =
      record {
        some = rw length_whole ((le-div_iff_mul-le (t_positive A)).1 (rw one-mul t_below));
        few = le_of_eq (length_whole (c.n / c.t));
        as_many = length-tabulate (c.n / c.t) (λ b. 0) ∙ sym (length_whole (c.n / c.t));
        inside = (whole_selected (c.n / c.t)).inside;
        once = (whole_selected (c.n / c.t)).distinct;
        shifts_inside = λ b l. rw (no_shift b (rw length-tabulate at l)) (t_positive A);
      }

  pub all_places_lem : all_places c (all_blocks c) ≡ c.n
  all_places_lem = ap (λ (k : ℕ). k * c.t) (length_whole (c.n / c.t)) ∙ blocks_fill

  -- place j is column j
  all_selected : (j : ℕ) → j < c.n → selected_column c.t (whole (c.n / c.t)) (tabulate (c.n / c.t) (λ b. 0)) j ≡ j
  unfolding selected_column whole
  all_selected j l =
      ap₂ (λ (b s : ℕ). b * c.t + ((j % c.t) ⊕ s)) (get_d_tabulate (c.n / c.t) (λ b. b) (j / c.t) 0 inside)
      (no_shift (j / c.t) inside)
      ∙ ap (λ (r : ℕ). j / c.t * c.t + r) (⊕-zero (j % c.t)) ∙ div-add-mod' j c.t
    where
      inside : j / c.t < c.n / c.t
      inside = (div-lt_iff_lt-mul (t_positive A)).1 (rw blocks_fill l)

  pub all_columns_lem : all_columns c (all_blocks c) ≡ all_columns c whole_code
  unfolding all_columns whole
  all_columns_lem =
      ap (λ (k : ℕ). tabulate k (selected_column c.t (whole (c.n / c.t)) (tabulate (c.n / c.t) (λ b. 0)))) all_places_lem
      ∙ tabulate_cong c.n all_selected
