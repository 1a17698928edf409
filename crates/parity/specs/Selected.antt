-- Columns of a code, each at most once, that the places of a word stand for. Those of the whole code are such a list.
use Rattle.std.specs.Prelude.{◌≡◌, List, ℕ, ◌≤◌, ◌<◌, length}
use Rattle.std.proofs.Common.{sym, ap, ◌∙◌, subst, arith}
use Rattle.algebra.specs.Lists.{entry_of}
use Rattle.algebra.specs.Pigeonhole.{pigeonhole}
use Rattle.algebra.specs.Distinct.{Distinct}
use Rattle.algebra.specs.Tabulate.{tabulate}
use Rattle.algebra.specs.TabulateLaws.{length-tabulate, get_d_tabulate}
use Rattle.params.specs.declared.Parameters.{Parameters}
use Rattle.slices.specs.Lengths.{longest}
use Rattle.params.proofs.Accepted.{n_short}
use Rattle.params.specs.Code.{Accepted}
use Rattle.parity.specs.Word.{whole}

pub record Selected (n : ℕ) (cols : List ℕ) : Type 0 where
  pub inside : (j : ℕ) → j < length cols → entry_of cols j < n
  pub distinct : Distinct (length cols) (entry_of cols)

-- an accepted code, and columns of it
pub record OnColumns (c : Parameters) (h cols : List ℕ) : Type 0 where
  pub accepted : Accepted c h
  pub selected : Selected c.n cols

pub selected_short : {n : ℕ} {cols : List ℕ} → Selected n cols → length cols ≤ n
selected_short {n} {cols} S = pigeonhole n (length cols) (entry_of cols) S.distinct S.inside

pub columns_short : {c : Parameters} {h cols : List ℕ} → OnColumns c h cols → length cols ≤ longest
columns_short {c} {h} {cols} O =
    let fewer : length cols ≤ c.n = selected_short O.selected in
    let short : c.n ≤ longest = n_short O.accepted.limits in
    omega arith

-- columns given by a function
pub tabulated_selected : (n k : ℕ) (f : ℕ → ℕ) → ((j : ℕ) → j < k → f j < n) → Distinct k f → Selected n (tabulate k f)
tabulated_selected n k f inside distinct =
    record {
      inside = λ j l. subst (λ (x : ℕ). x < n) (sym (at j (below j l))) (inside j (below j l));
      distinct = λ i j l lj e. distinct i j l (below j lj) (sym (at i (earlier i j l (below j lj))) ∙ e ∙ at j (below j lj));
    }
  where
    below : (j : ℕ) → j < length (tabulate k f) → j < k
    below j l = subst (λ (i : ℕ). j < i) (length-tabulate k f) l

    at : (j : ℕ) → j < k → entry_of (tabulate k f) j ≡ f j
    at j l = get_d_tabulate k f j 0 l

    earlier : (i j : ℕ) → i < j → j < k → i < k
    earlier i j l lj = omega arith

-- ---- the whole code

pub length_whole : (n : ℕ) → length (whole n) ≡ n
unfolding whole
length_whole n = length-tabulate n (λ j. j)

pub whole_selected : (n : ℕ) → Selected n (whole n)
unfolding whole
whole_selected n = tabulated_selected n n (λ j. j) (λ j l. l) different
  where
    different : (i j : ℕ) → i < j → j < n → i ≡ j → ⊥
    different i j l lj e = omega arith

module _ (c : Parameters) {cols : List ℕ} (numbered : cols ≡ whole c.n) where
  pub on_whole : {h : List ℕ} → Accepted c h → OnColumns c h cols
  on_whole {h} A = subst (OnColumns c h) (sym numbered) (record { accepted = A; selected = whole_selected c.n })

  -- a buffer of n entries has one for each column
  pub as_long : {k : ℕ} → k ≡ c.n → k ≡ length cols
  as_long e = e ∙ sym (ap length numbered ∙ length_whole c.n)
