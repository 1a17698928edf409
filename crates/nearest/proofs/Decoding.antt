-- What the parts that find the candidate hand on, over plain numbers and lists: the loop of `turn_roots`, and the code's facts that they ask for.
use mathlib.Core.Path.{◌≡◌, refl, sym, ap, ap₂, ◌∙◌, subst}
use mathlib.Core.Bool.{Bool, true, false, cond}
use mathlib.Core.List.{List}
use Prim.Native.Nat.{ℕ, ◌+◌, ◌/◌, ◌<◌, ◌≤◌}
use native.Mathlib.Numerals.{add-one}
use native.Mathlib.Omega.{arith}
use lib.Dec.{eqb}
use lib.ListN.{length, set}
use Rattle.algebra.specs.Lists.{entry_of}
use Rattle.algebra.specs.Locator.Nodal.{Points, points_cong}
use Rattle.algebra.specs.Locator.Pass.{Invariant, invariant_cong}
use Rattle.algebra.specs.Locator.Split.{value}
use Rattle.algebra.specs.PlaceLaws.{count_tests}
use Rattle.algebra.specs.Places.{count}
use Rattle.algebra.specs.Tabulate.{tabulate}
use Rattle.algebra.specs.TabulateLaws.{tabulate_cong, length-tabulate, get_d_tabulate}
use Rattle.algebra.specs.Filling.{Filling, filling_start, filling_turn}
use Rattle.algebra.specs.Xor.{◌⊕◌}
use Rattle.field.specs.Gf.{gf}
use Rattle.slices.specs.Elements.{Elements}
use Rattle.slices.specs.Lengths.{longest}
use Rattle.params.specs.declared.Parameters.{Parameters}
use Rattle.params.proofs.Accepted.{accepted_pair, n_short, t_short}
use Rattle.signature.specs.Signature.{root_at, support_at}
use Rattle.parity.specs.Parity.{signature_syndrome, signature_in}
use Rattle.parity.specs.Word.{syndrome_at, syndrome_of}
use Rattle.parity.specs.Selected.{OnColumns}
use Rattle.locator.specs.declared.polynomial.Polynomial.{Polynomial}
use Rattle.locator.specs.Coefficients.{halves_of, Syndrome, Located}
use Rattle.nearest.specs.Decoding.{is_error, root_place, Candidate}
use Rattle.nearest.proofs.Errors.{roots}
use Rattle.nearest.specs.Turned.{turned}

-- ---- `turn_roots`: the places passed hold the bits turned where p holds, `number` of them, and the rest is as it was

abbrev turned_bit : (ℕ → Bool) → List ℕ → ℕ → ℕ
turned_bit p received k = entry_of received k ⊕ cond (p k) 1 0

pub record Turning (n : ℕ) (p : ℕ → Bool) (received old now : List ℕ) (number j : ℕ) : Type 0 where
  pub filling : Filling (turned_bit p received) n old now j
  pub counted : number ≡ count j p
  pub few : number ≤ j

pub turning_start : (n : ℕ) (p : ℕ → Bool) (received old : List ℕ) → length old ≡ n → Turning n p received old old 0 0
unfolding count
turning_start n p received old long =
    record { filling = filling_start (turned_bit p received) n old long; counted = refl; few = omega arith }

pub turning_turn : {n : ℕ} {p : ℕ → Bool} {received old now : List ℕ} {number j : ℕ} → Turning n p received old now number j → j < n
    → (b : Bool) → p j ≡ b → {v number' : ℕ} → v ≡ entry_of received j ⊕ cond b 1 0 → number' ≡ number + cond b 1 0
    → Turning n p received old (set now j v) number' (j + 1)
unfolding count
turning_turn {n} {p} {received} {old} {now} {number} {j} T l b e v-is number_is =
    record {
      filling = filling_turn T.filling l (v-is ∙ ap (λ (b : Bool). entry_of received j ⊕ cond b 1 0) (sym e));
      counted =
          number_is ∙ ap₂ (λ (k : ℕ) (b : Bool). k + cond b 1 0) T.counted (sym e) ∙ sym (ap (λ (k : ℕ). count k p) (add-one j));
      few = subst (λ (k : ℕ). k ≤ j + 1) (sym number_is) (one_more b T.few);
    }
  where
    one_more : (b : Bool) → number ≤ j → number + cond b 1 0 ≤ j + 1
    one_more true l = omega arith
    one_more false l = omega arith

-- ---- an accepted code and a list of its columns

module _ {c : Parameters} {h cols : List ℕ} (O : OnColumns c h cols) where
  pub roots_short : c.t ≤ longest
  roots_short = omega (arith, t_short O.accepted.limits, n_short O.accepted.limits)

  abbrev z : ℕ → ℕ
  z = root_at (gf c.m) c.omega (entry_of h)

  abbrev L : ℕ → ℕ
  L = support_at (gf c.m) c.omega (entry_of h)

  root_at_lem : {rs : List ℕ} → rs ≡ tabulate c.t z → (i : ℕ) → i < c.t → entry_of rs i ≡ z i
  root_at_lem e i l = ap (λ (x : List ℕ). entry_of x i) e ∙ get_d_tabulate c.t z i 0 l

  support_at_lem : {ls : List ℕ} → ls ≡ tabulate c.n L → (j : ℕ) → j < c.n → entry_of ls j ≡ L j
  support_at_lem e j l = ap (λ (x : List ℕ). entry_of x j) e ∙ get_d_tabulate c.n L j 0 l

  pub root_points : {rs : List ℕ} → rs ≡ tabulate c.t z → Points (gf c.m) (length rs) (entry_of rs)
  root_points {rs} e =
      subst (λ (k : ℕ). Points (gf c.m) k (entry_of rs)) (sym (ap length e ∙ length-tabulate c.t z))
      (points_cong (root_at_lem e) (roots O.accepted))

  pub support_in : {ls : List ℕ} → ls ≡ tabulate c.n L → Elements c.m ls
  support_in {ls} e j l =
      let inside : j < c.n = subst (λ (k : ℕ). j < k) (ap length e ∙ length-tabulate c.n L) l in
      subst (gf c.m).In (sym (support_at_lem e j inside)) ((accepted_pair O.accepted).L_in j inside)

  -- the columns have their support
  pub column_in : {ls : List ℕ} → ls ≡ tabulate c.n L → (j : ℕ) → j < length cols → entry_of cols j < length ls
  column_in e j l = subst (λ (k : ℕ). entry_of cols j < k) (sym (ap length e ∙ length-tabulate c.n L)) (O.selected.inside j l)

  -- what the decoder stores: the roots and the support
  pub roots_stored : {k : ℕ} {new : List ℕ} → k ≡ c.t → new ≡ tabulate k z → new ≡ tabulate c.t z
  roots_stored long e = e ∙ ap (λ (k : ℕ). tabulate k z) long

  pub support_stored : {k : ℕ} {new : List ℕ} → k ≡ c.n → new ≡ tabulate k L → new ≡ tabulate c.n L
  support_stored long e = e ∙ ap (λ (k : ℕ). tabulate k L) long

  module _ (received : List ℕ) where
    abbrev s : ℕ → ℕ
    s = syndrome_at c h cols received

    syndrome_at_lem : {ss : List ℕ} → ss ≡ syndrome_of c h cols received → (i : ℕ) → i < c.t → entry_of ss i ≡ s i
    unfolding syndrome_of
    syndrome_at_lem e i l = ap (λ (x : List ℕ). entry_of x i) e ∙ get_d_tabulate c.t s i 0 l

    pub syndrome_fits : {rs ss : List ℕ} → rs ≡ tabulate c.t z → ss ≡ syndrome_of c h cols received → Syndrome c.m rs ss
    unfolding syndrome_of
    syndrome_fits {rs} {ss} er es =
        let many : length rs ≡ c.t = ap length er ∙ length-tabulate c.t z in
        record {
          few = subst (λ (k : ℕ). k ≤ longest / 2) (sym many) (halved O.accepted.limits.t_high (n_short O.accepted.limits));
          long = ap length es ∙ length-tabulate c.t s ∙ sym many;
          inside = λ i l.
              let li : i < c.t = subst (λ (k : ℕ). i < k) many l in
              subst (gf c.m).In (signature_syndrome O.accepted O.selected received i li ∙ sym (syndrome_at_lem es i li))
              (signature_in O.accepted O.selected received i li);
        }
      where
        halved : c.t ≤ c.n / 2 → c.n ≤ longest → c.t ≤ longest / 2
        halved a b = omega arith

    -- what `turn_roots` makes of the pair that the pass leaves is the candidate
    module _ {rs ls ss word : List ℕ} {p : Polynomial} {number : ℕ} (er : rs ≡ tabulate c.t z) (el : ls ≡ tabulate c.n L)
        (es : ss ≡ syndrome_of c h cols received) (P : Located c.m rs ss p)
        (number_is : number ≡ count (length cols) (root_place p ls cols))
        (word_is : word ≡ turned (length cols) (root_place p ls cols) received) where
      root_error : (j : ℕ) → j < length cols → root_place p ls cols j ≡ is_error c h cols (halves_of (gf c.m) p) j
      unfolding root_place is_error
      root_error j l =
          ap₂ (λ (m x : ℕ). eqb (value (gf m) (halves_of (gf m) p) x) 0) P.width
          (support_at_lem el (entry_of cols j) (O.selected.inside j l))

      pub candidate_found : Candidate c h cols received number word
      unfolding turned
      candidate_found =
          let many : length rs ≡ c.t = ap length er ∙ length-tabulate c.t z in
          let pair = halves_of (gf c.m) p in
          record {
            pair = pair;
            degree = p.degree;
            rest = P.rest;
            rest_degree = P.rest_degree;
            invariant =
                invariant_cong (λ k l. sym (root_at_lem er k l))
                (λ k l. sym (syndrome_at_lem es k l))
                (subst (λ (i : ℕ). Invariant (gf c.m) (entry_of rs) (entry_of ss) i pair p.degree P.rest P.rest_degree) many
                P.invariant);
            least = P.least;
            number_is = number_is ∙ count_tests (length cols) (root_place p ls cols) _ root_error;
            word_is =
                word_is
                ∙ tabulate_cong (length cols) (λ j l. ap (λ (b : Bool). entry_of received j ⊕ cond b 1 0) (root_error j l));
          }
