-- The field of two elements is a field.
use Rattle.std.specs.Prelude.{◌≡◌, refl, ◌≢◌, ℕ, zero, suc, ◌*◌, ◌%◌, ◌<◌}
use Rattle.std.proofs.Common.{sym, ap, ◌∙◌, subst, zero-mul, one-mul, mul_comm, mul_assoc, mod-lt, mod-eq_of_lt, zero-lt-suc, arith, lit<}
use Rattle.std.proofs.Math.Decide.{ℕ_discrete}
use Rattle.algebra.specs.Field.{Laws}
use Rattle.algebra.specs.XorLaws.{⊕_comm, ⊕_assoc, ⊕_self, zero-⊕, ⊕-lt, ⊕-mod}
use Rattle.algebra.specs.BitLaws.{bit_cases, bit_⊕}
use Rattle.algebra.specs.Gf2.{gf2}

bit_product_lt : (a b : ℕ) → (a % 2) * (b % 2) < 2
bit_product_lt a b =
    bit_cases (λ (s : ℕ). s * (b % 2) < 2) (subst (λ (x : ℕ). x < 2) (sym (zero-mul (b % 2))) (lit< tt))
    (subst (λ (x : ℕ). x < 2) (sym (one-mul (b % 2))) (mod-lt b (zero-lt-suc 1))) a

bit_product_assoc : (a b c : ℕ) → ((a % 2) * (b % 2) % 2) * (c % 2) ≡ (a % 2) * ((b % 2) * (c % 2) % 2)
bit_product_assoc a b c =
    ap (λ (x : ℕ). x * (c % 2)) (mod-eq_of_lt (bit_product_lt a b)) ∙ mul_assoc (a % 2) (b % 2) (c % 2)
    ∙ ap (λ (x : ℕ). (a % 2) * x) (sym (mod-eq_of_lt (bit_product_lt b c)))

bit_inverse : (a : ℕ) → a < 2 → a ≢ 0 → (a % 2) * (a % 2 % 2) ≡ 1
bit_inverse zero h ne = absurd (ne refl)
bit_inverse (suc zero) h ne = refl
bit_inverse (suc (suc a)) h ne = absurd (omega arith)

pub gf2_laws : Laws gf2
gf2_laws =
    record {
      add_comm = ⊕_comm;
      add_assoc = ⊕_assoc;
      nought_add = zero-⊕;
      add_self = ⊕_self;
      mul_comm = λ a b. mul_comm (a % 2) (b % 2);
      mul_assoc = bit_product_assoc;
      mul_add = λ a b c. ap (λ (x : ℕ). (a % 2) * x) (⊕-mod b c 1) ∙ bit_⊕ a (b % 2) (c % 2);
      one-mul = λ a h. one-mul (a % 2) ∙ mod-eq_of_lt h;
      mul_inv = bit_inverse;
      one≢nought = λ e. omega arith;
      nought? = λ a. ℕ_discrete a 0;
      in_nought = lit< tt;
      in_one = lit< tt;
      in_add = ⊕-lt 1;
      in_mul = bit_product_lt;
      in_inv = λ a. mod-lt a (zero-lt-suc 1);
    }
