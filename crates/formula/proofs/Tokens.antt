-- What the parser makes of the next byte of a text, and which bytes it stops at.
use Rattle.std.specs.Prelude.{◌≡◌, refl, ◌≢◌, Bool, true, false, List, [], ◌∷◌, ℕ, ◌+◌, ◌<◌, ◌≤◌, eqb, length, drop, get_or}
use Rattle.std.proofs.Common.{ap, ◌∙◌, arith, drop_of_length-le, eqb-true}
use Rattle.std.proofs.Math.Decide.{dec_lt}
use Rattle.algebra.specs.ListLaws.{here}
use Rattle.formula.specs.Letters.{Letter, letter_byte, plus_byte, times_byte, over_byte, mark_byte, open_byte, close_byte}
use Rattle.formula.specs.Grammar.{Term, letter}
use Rattle.formula.specs.Reading.{none}
use Rattle.formula.specs.Parser.{Token, Name, Plus, Times, Over, Mark, Open, Close, Other, byte_of, chosen, among, tokens, token}
use Rattle.formula.specs.Parser.{Front, State, operand, operator, failed, step, ended, run}
use Rattle.formula.proofs.Passing.{failed-none}
use Rattle.formula.specs.Evaluated.{sums, Ends}

-- the byte that a token stands for
abbrev pub IsByte : ℕ → Token → Type 0
IsByte n (Name l) = n ≡ letter_byte l
IsByte n Plus = n ≡ plus_byte
IsByte n Times = n ≡ times_byte
IsByte n Over = n ≡ over_byte
IsByte n Mark = n ≡ mark_byte
IsByte n Open = n ≡ open_byte
IsByte n Close = n ≡ close_byte
IsByte n Other = Unit {0}

pub token_is : (n : ℕ) → IsByte n (token n)
token_is n = among_is tokens
  where
    byte : (x : Token) → n ≡ byte_of x → IsByte n x
    byte (Name l) e = e
    byte Plus e = e
    byte Times e = e
    byte Over e = e
    byte Mark e = e
    byte Open e = e
    byte Close e = e
    byte Other e = tt

    pick : (b : Bool) (x y : Token) → (b ≡ true → IsByte n x) → IsByte n y → IsByte n (chosen b x y)
    pick true x y f i = f refl
    pick false x y f i = i

    among_is : (xs : List Token) → IsByte n (among xs n)
    among_is [] = tt
    among_is (x ∷ xs) = pick (eqb n (byte_of x)) x (among xs n) (λ t. byte x (eqb-true n (byte_of x) t)) (among_is xs)

module _ (lent : Letter → Bool) (k : ℕ) (outer : List Front) where
  -- a byte that begins no term
  pub operand_fails : (n : ℕ) (f : Front) → n ≢ open_byte → ((l : Letter) → n ≡ letter_byte l → lent l ≡ false)
      → step lent (operand k outer f) (token n) ≡ failed
  operand_fails n f closed unlent = at (token n) (token_is n)
    where
      at : (x : Token) → IsByte n x → step lent (operand k outer f) x ≡ failed
      at (Name l) i = ap (λ (b : Bool). chosen b (operator k outer f (letter l)) failed) (unlent l i)
      at Plus i = refl
      at Times i = refl
      at Over i = refl
      at Mark i = refl
      at Open i = absurd (closed i)
      at Close i = refl
      at Other i = refl

  -- a byte that goes on with no term, and closes no bracket
  pub operator_fails : (n : ℕ) (f : Front) (t : Term) → Ends sums n → (n ≡ close_byte → outer ≡ [])
      → step lent (operator k outer f t) (token n) ≡ failed
  operator_fails n f t ends closed = at (token n) (token_is n)
    where
      at : (x : Token) → IsByte n x → step lent (operator k outer f t) x ≡ failed
      at (Name l) i = refl
      at Plus i = absurd (ends.3 i)
      at Times i = absurd (ends.1 i)
      at Over i = absurd (ends.2 i)
      at Mark i = absurd (ends.0 i)
      at Open i = refl
      at Close i = ap (λ (o : List Front). step lent (operator k o f t) Close) (closed i)
      at Other i = refl

-- a state that neither ends at a place of the text nor goes on with the byte there
pub stopped : (text : List ℕ) (at : ℕ) (lent : Letter → Bool) (state : State) → (length text ≤ at → ended lent state ≡ none)
    → step lent state (token (get_or text at 0)) ≡ failed → run lent state (drop at text) ≡ none
unfolding run
stopped text at lent state e f = decided (dec_lt at (length text))
  where
    decided : Dec (at < length text) → run lent state (drop at text) ≡ none
    decided (yes l) =
        ap (run lent state) (here text at l) ∙ ap (λ (x : State). run lent x (drop (at + 1) text)) f ∙ failed-none lent (drop (at + 1) text)
    decided (no nl) =
        let past : length text ≤ at = omega arith in ap (run lent state) (drop_of_length-le text past) ∙ e past
