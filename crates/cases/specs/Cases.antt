-- 01's cases marked P, as one table with one proof over its rows. A row has what the public definitions give, computed, and what 01 says.
use Rattle.std.specs.Prelude.{◌≡◌, Bool, true, ◌&&◌, List, [], ◌∷◌, ℕ, suc, ◌^◌, length, Ok, Err}
use Rattle.algebra.specs.Tabulate.{tabulate}
use Rattle.field.specs.Found.{Answer}
use Rattle.field.specs.Answers.{product_answer, inverse_answer}
use Rattle.refusals.specs.Outcome.{Outcome}
use Rattle.blocks.specs.Answers.{product_answer as blockProductAnswer, product_after as blockProductAfter, inverse_answer as blockInverseAnswer, inverse_after as blockInverseAfter}
use Rattle.params.specs.declared.Parameters.{Parameters}
use Rattle.essence.specs.Answers.{essence_answer, essence_after}
use Rattle.essence.specs.Answers.{signature_answer, signature_after}
use Rattle.codes.specs.Answers.{check_answer, support_after}
use Rattle.algebra.specs.Lists.{same_list}
use Rattle.words.specs.Answers.{encode_answer, encode_after}
use Rattle.algebra.specs.Places.{count}
use Rattle.shortened.specs.Setting.{short_code, places}
use Rattle.repair.specs.declared.Recovery.{Recovery}
use Rattle.repair.specs.declared.Recovery.TheVariants.{Repaired, Refused as NotRepaired}
use Rattle.repair.specs.Answers.{repair_answer, repair_after}

-- ---- answers as lists of numbers: 0 or the refusal's number, then the value and what the lent buffer holds

unfoldable pub element : Answer → List ℕ
element (Ok a) = 0 ∷ a ∷ []
element (Err k) = k ∷ []

unfoldable pub outcome : Outcome → List ℕ → List ℕ
outcome (Ok done) buffer = 0 ∷ buffer
outcome (Err k) buffer = k ∷ buffer

unfoldable pub recovery : Recovery → List ℕ → List ℕ
recovery (Repaired count) buffer = 0 ∷ count ∷ buffer
recovery (NotRepaired k) buffer = k ∷ buffer

-- ---- the calls of the cases; a lent buffer is marked at first, with a number that no call of the cases writes, so that an unchanged buffer shows

unfoldable pub marked : ℕ → List ℕ
marked n = tabulate n mark
  where
    mark : ℕ → ℕ
    mark i = 99

-- marks that hide nothing
unfoldable pub sent : ℕ → List ℕ
sent n = tabulate n zero_at
  where
    zero_at : ℕ → ℕ
    zero_at i = 0

unfoldable pub block_product_of : ℕ → List ℕ → List ℕ → List ℕ
block_product_of m a b =
    let lent = marked (length a) in outcome (blockProductAnswer m a b lent) (blockProductAfter m a b lent)

unfoldable pub block_inverse_of : ℕ → List ℕ → List ℕ
block_inverse_of m a =
    let lent = marked (length a) in outcome (blockInverseAnswer m a lent) (blockInverseAfter m a lent)

-- the numbers of a card with one root and no offset
unfoldable pub card : ℕ → ℕ → Parameters
card m n = record { m = m; n = n; t = 1; omega = 0 }

-- whether a signature is accepted, with one root and no offset, and its support
unfoldable pub signature_of : ℕ → List ℕ → List ℕ
signature_of m h =
    let lent = marked (length h) in
    let none = sent (length h) in outcome (check_answer (card m (length h)) h none lent lent) (support_after (card m (length h)) h none lent lent)

-- the essence of a signature of 2^e entries, and the signature of an essence with as much room
unfoldable pub essence_for : ℕ → ℕ → List ℕ → List ℕ
essence_for m e h =
    let lent = marked (suc e) in outcome (essence_answer m h lent) (essence_after m h lent)

unfoldable pub signature_for : ℕ → ℕ → List ℕ → List ℕ
signature_for m e v =
    let lent = marked (2 ^ e) in outcome (signature_answer m v lent) (signature_after m v lent)

-- card T
unfoldable pub signature_t : List ℕ
signature_t = 12 ∷ 8 ∷ 10 ∷ 22 ∷ 26 ∷ 9 ∷ 16 ∷ 21 ∷ 14 ∷ 5 ∷ 17 ∷ 4 ∷ 30 ∷ 23 ∷ 25 ∷ 31 ∷ []

-- card A
unfoldable pub signature_a : List ℕ
signature_a = 7 ∷ 2 ∷ 3 ∷ 4 ∷ []

-- on card A, with these marks
unfoldable pub encoding_a : List ℕ → List ℕ → List ℕ
encoding_a hidden message =
    let s = short_code hidden in
    let lent = marked (places s) in outcome (encode_answer (card 3 4) signature_a s message lent) (encode_after (card 3 4) signature_a s message lent)

unfoldable pub repair_a : List ℕ → List ℕ → List ℕ
repair_a hidden received =
    let s = short_code hidden in
    let lent = marked (places s) in recovery (repair_answer (card 3 4) signature_a s received lent) (repair_after (card 3 4) signature_a s received lent)

-- ---- the table

pub record Case : Type 0 where
  pub given : List ℕ
  pub said : List ℕ

unfoldable pub is : List ℕ → List ℕ → Case
is given said = record { given = given; said = said }

unfoldable pub table : List Case
table =
    -- "width 5: 2 times 16 is 5; the inverse of 12 is 7."
    is (element (product_answer 5 2 16)) (0 ∷ 5 ∷ [])
    ∷ is (element (inverse_answer 5 12)) (0 ∷ 7 ∷ [])
    -- "width 3: block (1, 2) times itself is (5, 0); its inverse is (2, 4)." "block (3, 3) has none: 9."
    ∷ is (block_product_of 3 (1 ∷ 2 ∷ []) (1 ∷ 2 ∷ [])) (0 ∷ 5 ∷ 0 ∷ [])
    ∷ is (block_inverse_of 3 (1 ∷ 2 ∷ [])) (0 ∷ 2 ∷ 4 ∷ [])
    ∷ is (block_inverse_of 3 (3 ∷ 3 ∷ [])) (9 ∷ marked 2)
    -- "width 3: h = 7 2 3 5 gives 5." "width 2: 1 1 1 1 gives 6; 1 0 gives 4; 1 2 with ω 0 is accepted, L = 0 2."
    ∷ is (signature_of 3 (7 ∷ 2 ∷ 3 ∷ 5 ∷ [])) (5 ∷ marked 4)
    ∷ is (signature_of 2 (1 ∷ 1 ∷ 1 ∷ 1 ∷ [])) (6 ∷ marked 4)
    ∷ is (signature_of 2 (1 ∷ 0 ∷ [])) (4 ∷ marked 2)
    ∷ is (signature_of 2 (1 ∷ 2 ∷ [])) (0 ∷ 0 ∷ 2 ∷ [])
    -- "card A: message 1 is word 1 0 1 1." "1 0 1 0 is repaired to it, count 1." "1 1 0 0 gives 10."
    ∷ is (encoding_a (sent 4) (1 ∷ [])) (0 ∷ 1 ∷ 0 ∷ 1 ∷ 1 ∷ [])
    ∷ is (repair_a (sent 4) (1 ∷ 0 ∷ 1 ∷ 0 ∷ [])) (0 ∷ 1 ∷ 1 ∷ 0 ∷ 1 ∷ 1 ∷ [])
    ∷ is (repair_a (sent 4) (1 ∷ 1 ∷ 0 ∷ 0 ∷ [])) (10 ∷ marked 4)
    -- Card A with its one message column hidden: the empty message, and the word 0 0 0. A hidden check column, and a mark of 2, give 20.
    ∷ is (encoding_a (0 ∷ 0 ∷ 0 ∷ 1 ∷ []) []) (0 ∷ 0 ∷ 0 ∷ 0 ∷ [])
    ∷ is (repair_a (0 ∷ 0 ∷ 0 ∷ 1 ∷ []) (1 ∷ 0 ∷ 0 ∷ [])) (0 ∷ 1 ∷ 0 ∷ 0 ∷ 0 ∷ [])
    ∷ is (encoding_a (1 ∷ 0 ∷ 0 ∷ 0 ∷ []) (1 ∷ [])) (20 ∷ marked 3)
    ∷ is (repair_a (0 ∷ 0 ∷ 0 ∷ 2 ∷ []) (1 ∷ 0 ∷ 0 ∷ [])) (20 ∷ marked 3)
    -- "For card T it is 17 30 18 1 7."
    ∷ is (essence_for 5 4 signature_t) (0 ∷ 17 ∷ 30 ∷ 18 ∷ 1 ∷ 7 ∷ [])
    ∷ is (signature_for 5 4 (17 ∷ 30 ∷ 18 ∷ 1 ∷ 7 ∷ [])) (0 ∷ signature_t)
    ∷ []

-- ---- that the rows agree, which one proof shows (proofs/Table.antt)

unfoldable pub agree : List Case → Bool
agree [] = true
agree (c ∷ cs) = same_list c.given c.said && agree cs

abbrev pub Hold : List Case → Type 0
Hold [] = Unit {0}
Hold (c ∷ cs) = (c.given ≡ c.said) × Hold cs
