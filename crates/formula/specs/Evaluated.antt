-- What the evaluators promise: the formula that they found at their place, with its block, or that the parser of Parser finds none there.
use Rattle.std.specs.Prelude.{◌≡◌, ◌≢◌, Bool, ◌&&◌, List, ◌++◌, ℕ, ◌<◌, ◌≤◌, length, drop, get_or, Option, Some, None}
use Rattle.refusals.specs.Rules.{fault}
use Rattle.refusals.specs.Outcome.{Outcome, Done, tested}
use Rattle.slices.specs.Elements.{Elements}
use Rattle.formula.specs.declared.evaluators.Cursor.{Cursor}
use Rattle.formula.specs.Letters.{Lent, is_lent, plus_byte, times_byte, over_byte, mark_byte}
use Rattle.formula.specs.Grammar.{Sum, Product, Term, sum_text, product_text, term_text}
use Rattle.formula.specs.Reading.{TextReading, none, IsReading, SumWithin, ProductWithin, TermWithin}
use Rattle.formula.specs.Value.{sum_block, product_block, term_block, sum_exists, product_exists, term_exists}
use Rattle.formula.specs.Answers.{reading_rules, reading_block}
use Rattle.formula.specs.Parser.{Sums, first, Front, operand, run, start}

-- ---- the three kinds of formulas, under one name

pub data Kind : Type 0 where
  sums : Kind
  products : Kind
  terms : Kind

abbrev pub Tree : Kind → Type 0
Tree sums = Sum
Tree products = Product
Tree terms = Term

abbrev pub text_of : (K : Kind) → Tree K → List ℕ
text_of sums = sum_text
text_of products = product_text
text_of terms = term_text

abbrev pub Within : (K : Kind) → Lent → Tree K → ℕ → Type 0
Within sums β = SumWithin (is_lent β)
Within products β = ProductWithin (is_lent β)
Within terms β = TermWithin (is_lent β)

abbrev pub block : (K : Kind) → ℕ → Lent → Tree K → List ℕ
block sums = sum_block
block products = product_block
block terms = term_block

abbrev pub exists : (K : Kind) → ℕ → Lent → Tree K → Bool
exists sums = sum_exists
exists products = product_exists
exists terms = term_exists

-- from one place to the other the text is that of `tree`, in which brackets nest at most k deep, and `value` is its block
pub record Held (K : Kind) (m : ℕ) (β : Lent) (k : ℕ) (text : List ℕ) (from to : Cursor) (value : List ℕ) : Type 0 where
  pub tree : Tree K
  pub spans : drop from.at text ≡ text_of K tree ++ drop to.at text
  pub inside : to.at ≤ length text
  pub within : Within K β tree k
  pub living : to.exists ≡ (from.exists && exists K m β tree)
  pub worth : value ≡ block K m β tree
  pub elements : Elements m value

-- a byte that does not go on with a term, a product, a sum
abbrev pub Ends : Kind → ℕ → Type 0
Ends terms n = n ≢ mark_byte
Ends products n = (n ≢ mark_byte) × (n ≢ times_byte) × (n ≢ over_byte)
Ends sums n = (n ≢ mark_byte) × (n ≢ times_byte) × (n ≢ over_byte) × (n ≢ plus_byte)

-- the text from a place on is that of no formula, whatever stands before the sum, the product, the term that is to begin there
abbrev pub NoneAt : Kind → Lent → ℕ → List ℕ → ℕ → Type 0
NoneAt sums β k text at = (outer : List Front) → run (is_lent β) (operand k outer start) (drop at text) ≡ none
NoneAt products β k text at =
    (outer : List Front) (s : Sums) → run (is_lent β) (operand k outer (record { sums = s; products = first })) (drop at text) ≡ none
NoneAt terms β k text at = (outer : List Front) (f : Front) → run (is_lent β) (operand k outer f) (drop at text) ≡ none

-- what an evaluator finds: the place after it, or that the text is no formula
abbrev pub Found : Type 0
Found = Option Cursor

abbrev pub OnFound : (Cursor → Type 0) → Type 0 → Found → Type 0
OnFound Holds Missing (Some to) = Holds to
OnFound Holds Missing None = Missing

-- what is found at `from` is a formula of the kind K, after which none of the kind E goes on; or none is there
pub record Finds (K E : Kind) (m : ℕ) (β : Lent) (k : ℕ) (text : List ℕ) (from : Cursor) (value : List ℕ) (r : Found) : Type 0 where
  pub found : OnFound (λ to. Held K m β k text from to value × Ends E (get_or text to.at 0)) (NoneAt K β k text from.at) r

-- a formula that is found after a place is not empty
pub record Moves (at : ℕ) (r : Found) : Type 0 where
  pub moves : OnFound (λ to. at < to.at) (Unit {0}) r

-- the whole text worked out: the refusal that is due by its reading, and its block where there is none
pub record Worked (m : ℕ) (text : List ℕ) (β : Lent) (outcome : Outcome) (value : List ℕ) : Type 0 where
  pub reading : TextReading
  pub right : IsReading β text reading
  pub due : outcome ≡ tested (fault (reading_rules m β reading))
  pub worth : outcome ≡ Done → value ≡ reading_block m β reading
