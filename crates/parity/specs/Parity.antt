-- The parity check matrix: its entries are the signature's, whatever the offset, and a word is a code word exactly if the rows of its bits say so.
use Rattle.std.specs.Prelude.{◌≡◌, ◌↔◌, List, length}
use Rattle.std.proofs.Math.Path.{sym, ap}
use Rattle.std.proofs.Common.{◌∙◌, subst, mul-zero, mul-one, arith, pow_pos}
use Prim.Native.Nat.{ℕ, zero, suc, ◌%◌, ◌^◌, ◌<◌}
use Rattle.std.proofs.Math.Nat.{mod-eq_of_lt}
use Rattle.algebra.specs.Bits.{bit_at}
use Rattle.algebra.specs.BitLaws.{bit_at_lt, bit_at-zero, bit_at-⊕, bits_zero}
use Rattle.algebra.specs.Gf2.{gf2}
use Rattle.algebra.specs.Echelon.{Inside, dot}
use Rattle.algebra.specs.Lists.{entry_of}
use Rattle.algebra.specs.Sum.{sum}
use Rattle.algebra.specs.SumLaws.{sum_cong, in_sum}
use Rattle.algebra.specs.Xor.{◌⊕◌}
use Rattle.field.specs.Gf.{Width, gf}
use Rattle.field.proofs.GfLaws.{gf_laws}
use Rattle.slices.specs.Bits.{Bits}
use Rattle.slices.specs.Elements.{Elements}
use Rattle.basis.specs.Table.{Reaches}
use Rattle.params.specs.declared.Parameters.{Parameters}
use Rattle.params.proofs.Accepted.{accepted_pair, index_below}
use Rattle.params.specs.Code.{Accepted}
use Rattle.parity.specs.Selected.{Selected}
use Rattle.parity.specs.Word.{parity_at, held, syndrome_at}

-- row i of the syndrome from the signature alone: the sum of h_(i⊕cols_j) over the places j that hold 1
unfoldable pub signature_sum : ℕ → List ℕ → List ℕ → List ℕ → ℕ → ℕ
signature_sum m h cols word i = sum (gf m) (length cols) (λ j. held (entry_of word j) (entry_of h (i ⊕ entry_of cols j)))

-- a word of bits, a place for each column, and a signature of elements
pub record Summed (m : ℕ) (h cols word : List ℕ) : Type 0 where
  pub width : Width m
  pub long : length word ≡ length cols
  pub bits : Bits word
  pub elements : Elements m h

pub held_in : (m w x : ℕ) → x < 2 ^ m → held w x < 2 ^ m
unfolding held
held_in m zero x l = pow_pos m
held_in m (suc w) x l = l

-- the entry in row i and column j is h_(i⊕j)
pub parity_signature : {c : Parameters} {h : List ℕ} → Accepted c h → (i j : ℕ) → i < c.n → j < c.n → parity_at c h i j ≡ entry_of h (i ⊕ j)
unfolding parity_at
parity_signature A i j li lj = (accepted_pair A).entry i j li lj

module _ {c : Parameters} {h cols : List ℕ} (A : Accepted c h) (S : Selected c.n cols) where
  row_below : {i : ℕ} → i < c.t → i < c.n
  row_below l = omega (arith, A.limits.t_high)

  pub reaches : Reaches c.t h cols
  reaches i li j lj =
      subst (λ (k : ℕ). i ⊕ entry_of cols j < k) (sym A.limits.h_length)
      (index_below A.limits i (entry_of cols j) (row_below li) (S.inside j lj))

  -- the matrix's entries are the signature's
  pub entry_signature : (i j : ℕ) → i < c.t → j < length cols → parity_at c h i (entry_of cols j) ≡ entry_of h (i ⊕ entry_of cols j)
  entry_signature i j li lj = parity_signature A i (entry_of cols j) (row_below li) (S.inside j lj)

  -- row i of the syndrome is the signature's sum, whatever the offset
  pub signature_syndrome : (word : List ℕ) (i : ℕ) → i < c.t → signature_sum c.m h cols word i ≡ syndrome_at c h cols word i
  unfolding syndrome_at signature_sum
  signature_syndrome word i li = sum_cong (gf c.m) (length cols) (λ j lj. ap (held (entry_of word j)) (sym (entry_signature i j li lj)))

  pub signature_in : (word : List ℕ) (i : ℕ) → i < c.t → signature_sum c.m h cols word i < 2 ^ c.m
  unfolding signature_sum
  signature_in word i li =
      in_sum (gf c.m) (gf_laws c.m A.limits.width) (length cols) (λ j. held (entry_of word j) (entry_of h (i ⊕ entry_of cols j)))
      (λ j lj. held_in c.m (entry_of word j) (entry_of h (i ⊕ entry_of cols j)) (A.limits.h_in (i ⊕ entry_of cols j) (reaches i li j lj)))

-- ---- the rows of bits, of any matrix e with t rows and n columns

-- the columns at the places that hold one add up to nothing
abbrev pub Checks : ℕ → ℕ → ℕ → (ℕ → ℕ → ℕ) → (ℕ → ℕ) → Type 0
Checks m n t e w = (i : ℕ) → i < t → sum (gf m) n (λ j. held (w j) (e i j)) ≡ 0

-- row (i, b): bit b of the entries of row i
abbrev pub bit_row : (ℕ → ℕ → ℕ) → ℕ → ℕ → ℕ → ℕ
bit_row e i b j = bit_at (e i j) b

-- bits of a sum of elements are sums of bits
pub bit_at-sum : (m k : ℕ) (f : ℕ → ℕ) (b : ℕ) → bit_at (sum (gf m) k f) b ≡ sum gf2 k (λ j. bit_at (f j) b)
unfolding sum
bit_at-sum m zero f b = bit_at-zero b
bit_at-sum m (suc k) f b = bit_at-⊕ (sum (gf m) k f) (f k) b ∙ ap (λ (x : ℕ). x ⊕ bit_at (f k) b) (bit_at-sum m k f b)

module _ {m n t : ℕ} (W : Width m) {e : ℕ → ℕ → ℕ} (e_in : (i j : ℕ) → i < t → j < n → e i j < 2 ^ m) where
  bit_at-held : (w x b : ℕ) → w < 2 → bit_at (held w x) b ≡ gf2.mul (bit_at x b) w
  unfolding held
  bit_at-held zero x b l = bit_at-zero b ∙ sym (mul-zero (bit_at x b % 2))
  bit_at-held (suc zero) x b l = sym (mul-one (bit_at x b % 2) ∙ mod-eq_of_lt (bit_at_lt x b))
  bit_at-held (suc (suc w)) x b l = absurd (omega arith)

  bit_at_check : (w : ℕ → ℕ) → Inside gf2 n w → (i b : ℕ) → bit_at (sum (gf m) n (λ j. held (w j) (e i j))) b ≡ dot gf2 n (bit_row e i b) w
  unfolding dot
  bit_at_check w hw i b =
      bit_at-sum m n (λ j. held (w j) (e i j)) b ∙ sum_cong gf2 n (λ j l. bit_at-held (w j) (e i j) b (hw j l))

  pub bit_rows : (w : ℕ → ℕ) → Inside gf2 n w → Checks m n t e w ↔ ((i b : ℕ) → i < t → b < m → dot gf2 n (bit_row e i b) w ≡ 0)
  bit_rows w hw = (
    λ c i b li lb. sym (bit_at_check w hw i b) ∙ ap (λ (x : ℕ). bit_at x b) (c i li) ∙ bit_at-zero b,
    λ d i li.
        bits_zero m (sum (gf m) n (λ j. held (w j) (e i j)))
        (in_sum (gf m) (gf_laws m W) n (λ j. held (w j) (e i j)) (λ j lj. held_in m (w j) (e i j) (e_in i j li lj)))
        (λ b lb. bit_at_check w hw i b ∙ d i b li lb),
  )
