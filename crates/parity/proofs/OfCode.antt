-- What a code on a list of its columns is known to be, and what makes one; and what the sums of a word's columns are.
use Rattle.std.specs.Prelude.{◌≡◌, refl, true, List, ℕ, ◌<◌, length}
use Rattle.std.proofs.Common.{sym, ap, ◌∙◌, subst}
use Rattle.algebra.specs.Tabulate.{tabulate}
use Rattle.algebra.specs.TabulateLaws.{tabulate_cong}
use Rattle.slices.specs.Bits.{IsBits}
use Rattle.basis.specs.Table.{Reaches}
use Rattle.params.specs.declared.Parameters.{Parameters}
use Rattle.params.specs.Code.{Accepted, code_fault}
use Rattle.params.proofs.Accepted.{accepted, accepts}
use Rattle.parity.specs.declared.Code.{Code}
use Rattle.parity.specs.Parity.{Summed, signature_sum, signature_syndrome, reaches}
use Rattle.parity.specs.Selected.{OnColumns}
use Rattle.parity.specs.Word.{syndrome_at, syndrome_of}

pub on_columns : (code : Code) → OnColumns code.c code.h.now code.cols.now
unfolding code_fault
on_columns code = record { accepted = (accepted true code.c code.h.now code.accepted).1; selected = code.selected }

pub accepted_code : {c : Parameters} {h : List ℕ} → Accepted c h → code_fault true c h ≡ 0
unfolding code_fault
accepted_code {c} {h} A = accepts true c h refl A

module _ {c : Parameters} {h cols : List ℕ} (O : OnColumns c h cols) where
  -- what the sums of a word's columns ask for
  pub summed : {word : List ℕ} → IsBits (length cols) word → Summed c.m h cols word
  summed b =
      let L = O.accepted.limits in
      record {
        width = L.width;
        long = b.long;
        bits = λ j l. b.bits j (subst (λ (k : ℕ). j < k) b.long l);
        elements = L.h_in;
      }

  pub rows_reach : {k : ℕ} → k ≡ c.t → Reaches k h cols
  rows_reach e = subst (λ (k : ℕ). Reaches k h cols) (sym e) (reaches O.accepted O.selected)

  -- they are the entries of its syndrome
  pub sum_is : (word : List ℕ) (i : ℕ) → i < c.t → signature_sum c.m h cols word i ≡ syndrome_at c h cols word i
  sum_is word i l = signature_syndrome O.accepted O.selected word i l

  pub sums_are : (word : List ℕ) {k : ℕ} → k ≡ c.t → tabulate k (signature_sum c.m h cols word) ≡ syndrome_of c h cols word
  unfolding syndrome_of
  sums_are word e = ap (λ (k : ℕ). tabulate k (signature_sum c.m h cols word)) e ∙ tabulate_cong c.t (sum_is word)
