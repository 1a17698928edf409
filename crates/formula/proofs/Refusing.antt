-- Why a text is no formula, at each place where an evaluator gives up: the parser finds none either.
use mathlib.Core.Path.{◌≡◌, refl, sym, ap, ◌∙◌}
use mathlib.Core.Logic.{◌≢◌}
use mathlib.Core.Bool.{false}
use mathlib.Core.List.{List, [], ◌∷◌}
use Prim.Native.Nat.{ℕ, zero, suc, ◌+◌, ◌<◌}
use native.Mathlib.Omega.{arith}
use lib.Dec.{lit<}
use lib.ListN.{length, drop, get_or}
use Rattle.formula.specs.declared.evaluators.Cursor.{Cursor}
use Rattle.formula.specs.Letters.{Letter, letter_byte, Lent, is_lent, plus_byte, open_byte, close_byte}
use Rattle.formula.specs.Reading.{none}
use Rattle.formula.specs.Parser.{Sums, first, after, Products, Front, State, operand, token, step, run, start}
use Rattle.formula.proofs.Passing.{sum_front_of, sum_last_of, after_product, after_sum, sum_plus, sum_passes, product_passes}
use Rattle.formula.specs.Evaluated.{sums, products, terms, Held, Ends, NoneAt}
use Rattle.algebra.specs.ListLaws.{here_is}
use Rattle.formula.proofs.Tokens.{operand_fails, operator_fails, stopped}
use Rattle.formula.proofs.Steps.{on, byte_at}

module _ (m : ℕ) (β : Lent) (text : List ℕ) where
  -- a byte that the parser takes
  taken : (state : State) (at n : ℕ) → get_or text at 0 ≡ n → 0 < n
      → run (is_lent β) state (drop at text) ≡ run (is_lent β) (step (is_lent β) state (token n)) (drop (at + 1) text)
  unfolding run
  taken state at n e pos = ap (run (is_lent β) state) (here_is text at e pos)

  pub no_letter : (k at : ℕ) {n : ℕ} → n ≡ get_or text at 0 → n ≢ open_byte → ((l : Letter) → n ≡ letter_byte l → is_lent β l ≡ false)
      → NoneAt terms β k text at
  no_letter k at {n} e closed unlent outer f =
      stopped text at (is_lent β) (operand k outer f) (λ l. refl)
      (ap (λ (x : ℕ). step (is_lent β) (operand k outer f) (token x)) (sym e) ∙ operand_fails (is_lent β) k outer n f closed unlent)

  pub no_bracket : (at : ℕ) → get_or text at 0 ≡ open_byte → NoneAt terms β zero text at
  no_bracket at e outer f =
      stopped text at (is_lent β) (operand zero outer f) (λ l. refl) (ap (λ (n : ℕ). step (is_lent β) (operand zero outer f) (token n)) e)

  pub no_inner : (k at : ℕ) → get_or text at 0 ≡ open_byte → NoneAt sums β k text (at + 1) → NoneAt terms β (suc k) text at
  no_inner k at e none-there outer f = taken (operand (suc k) outer f) at open_byte e (lit< tt) ∙ none-there (f ∷ outer)

  -- a sum that was read is passed by the parser
  sum_passed : (k : ℕ) {from to : Cursor} {value : List ℕ} (h : Held sums m β k text from to value) (outer : List Front)
      → run (is_lent β) (operand k outer start) (drop from.at text) ≡ run (is_lent β) (after_sum k outer h.tree) (drop to.at text)
  sum_passed k {to = to} h outer =
      ap (run (is_lent β) (operand k outer start)) h.spans ∙ sum_passes (is_lent β) h.tree k h.within outer (drop to.at text)

  product_passed : (k : ℕ) {from to : Cursor} {value : List ℕ} (h : Held products m β k text from to value) (outer : List Front) (s : Sums)
      → run (is_lent β) (operand k outer (record { sums = s; products = first })) (drop from.at text)
      ≡ run (is_lent β) (after_product k outer s h.tree) (drop to.at text)
  product_passed k {to = to} h outer s =
      ap (run (is_lent β) (operand k outer (record { sums = s; products = first }))) h.spans
      ∙ product_passes (is_lent β) h.tree k h.within outer s (drop to.at text)

  pub no_close : (k : ℕ) (from : Cursor) {to : Cursor} {value : List ℕ} → byte_at text from ≡ open_byte → Held sums m β k text (on from) to value
      → Ends sums (byte_at text to) → byte_at text to ≢ close_byte → NoneAt terms β (suc k) text from.at
  no_close k from {to} e h ends ne outer f =
      taken (operand (suc k) outer f) from.at open_byte e (lit< tt) ∙ sum_passed k h (f ∷ outer)
      ∙ stopped text to.at (is_lent β) (after_sum k (f ∷ outer) h.tree) (λ l. refl)
      (operator_fails (is_lent β) k (f ∷ outer) (byte_at text to) (sum_front_of h.tree) (sum_last_of h.tree) ends (λ c. absurd (ne c)))

  -- a product goes on with the byte n, but no term follows; f is what then stands before it
  pub no_factor : (k : ℕ) {from to : Cursor} {value : List ℕ} (h : Held products m β k text from to value) (n : ℕ) (f : Products)
      → ((outer : List Front) (s : Sums)
      → step (is_lent β) (after_product k outer s h.tree) (token n) ≡ operand k outer (record { sums = s; products = f }))
      → byte_at text to ≡ n → 0 < n → NoneAt terms β k text (to.at + 1) → NoneAt products β k text from.at
  no_factor k {to = to} h n f goes_on e pos none-there outer s =
      product_passed k h outer s ∙ taken (after_product k outer s h.tree) to.at n e pos
      ∙ ap (λ (x : State). run (is_lent β) x (drop (to.at + 1) text)) (goes_on outer s) ∙ none-there outer (record { sums = s; products = f })

  pub no_addend : (k : ℕ) {from to : Cursor} {value : List ℕ} → Held sums m β k text from to value → byte_at text to ≡ plus_byte
      → NoneAt products β k text (to.at + 1) → NoneAt sums β k text from.at
  no_addend k {to = to} h e none-there outer =
      sum_passed k h outer ∙ taken (after_sum k outer h.tree) to.at plus_byte e (lit< tt)
      ∙ ap (λ (x : State). run (is_lent β) x (drop (to.at + 1) text)) (sum_plus (is_lent β) k outer h.tree) ∙ none-there outer (after h.tree)

  -- a formula with more after it
  pub no_more : (k : ℕ) {from to : Cursor} {value : List ℕ} → Held sums m β k text from to value → Ends sums (byte_at text to) → to.at < length text
      → run (is_lent β) (operand k [] start) (drop from.at text) ≡ none
  no_more k {to = to} h ends l =
      sum_passed k h []
      ∙ stopped text to.at (is_lent β) (after_sum k [] h.tree) (λ g. absurd (omega arith))
      (operator_fails (is_lent β) k [] (byte_at text to) (sum_front_of h.tree) (sum_last_of h.tree) ends (λ c. refl))
