-- The echelon basis as the program keeps it: packed rows one after the other in one list, row p being the one that leads at place p, and beside
-- them a list that holds 1 where a row leads.
use Rattle.std.specs.Prelude.{◌≡◌, ◌↔◌, Bool, true, false, cond, not, List, ℕ, ◌+◌, ◌*◌, ◌/◌, ◌%◌, ◌≤◌, ◌<◌, eqb, length}
use Rattle.algebra.specs.Bits.{bit_at}
use Rattle.algebra.specs.Gf2.{gf2}
use Rattle.algebra.specs.Echelon.{Echelon, Solves, Inside, dot, rest, put}
use Rattle.algebra.specs.Lists.{entry_of}
use Rattle.algebra.specs.Places.{count}
use Rattle.algebra.specs.Tabulate.{tabulate}
use Rattle.algebra.specs.Xor.{◌⊕◌}
use Rattle.slices.specs.Lengths.{longest}
use Rattle.basis.specs.Packed.{packed_bit}

-- the machine words of a packed row
abbrev pub row_words : ℕ
row_words = longest / 64

-- bit j of row p
unfoldable pub row_bit : List ℕ → ℕ → ℕ → ℕ
row_bit rows p j = bit_at (entry_of rows (p * row_words + j / 64)) (j % 64)

unfoldable pub lead_at : List ℕ → ℕ → Bool
lead_at leads p = eqb (entry_of leads p) 1

-- a place without a row: a message column
unfoldable pub free_at : List ℕ → ℕ → Bool
free_at leads p = not (lead_at leads p)

-- how many of the first n places are free
abbrev pub free_count : ℕ → List ℕ → ℕ
free_count n leads = count n (free_at leads)

-- room for the rows of n places
pub record Room (n : ℕ) (rows leads : List ℕ) : Type 0 where
  pub short : n ≤ longest
  pub rows_long : n * row_words ≤ length rows
  pub leads_long : n ≤ length leads

-- a basis of n places
pub record Form (n : ℕ) (rows leads : List ℕ) : Type 0 where
  pub room : Room n rows leads
  pub echelon : Echelon gf2 n (row_bit rows) (lead_at leads)

-- ---- one row more

-- row p stands in the table, and `row` is as long
pub record RowFits (p : ℕ) (rows row : List ℕ) : Type 0 where
  pub short : p < longest
  pub inside : p * row_words + row_words ≤ length rows
  pub long : length row ≡ row_words

-- the row that leads at p was added
pub record Reduced (p : ℕ) (rows old new : List ℕ) : Type 0 where
  pub long : length new ≡ length old
  pub sum : (j : ℕ) → j < longest → packed_bit new j ≡ packed_bit old j ⊕ row_bit rows p j

-- a row leads at p, and nothing else has changed
pub record Stored (p : ℕ) (row rows leads rows' leads' : List ℕ) : Type 0 where
  pub rows_long : length rows' ≡ length rows
  pub leads_long : length leads' ≡ length leads
  pub row_is : (q j : ℕ) → j < longest → row_bit rows' q j ≡ put (row_bit rows) p (packed_bit row) q j
  pub leads_is : (q : ℕ) → lead_at leads' q ≡ put (lead_at leads) p true q

-- what bringing in a row makes of a basis, which then has `more` rows more
pub record Inserted (n : ℕ) (row rows leads : List ℕ) (more : ℕ) (rows' leads' : List ℕ) : Type 0 where
  pub form : Form n rows' leads'
  pub solves : (w : ℕ → ℕ) → Solves gf2 n (row_bit rows') (lead_at leads') w
      ↔ (Solves gf2 n (row_bit rows) (lead_at leads) w × (dot gf2 n (packed_bit row) w ≡ 0))
  pub rank : count n (lead_at leads') ≡ count n (lead_at leads) + more

-- ---- the parity rows

-- place j of row (i, b) of the parity check matrix: bit b of h_(i⊕cols_j)
unfoldable pub parity_bit : List ℕ → List ℕ → ℕ → ℕ → ℕ → ℕ
parity_bit h cols i b j = bit_at (entry_of h (i ⊕ entry_of cols j)) b

-- every entry of the matrix's row i stands in the signature
abbrev pub RowReaches : ℕ → List ℕ → List ℕ → Type 0
RowReaches i h cols = (j : ℕ) → j < length cols → i ⊕ entry_of cols j < length h

-- and so of each row below t
abbrev pub Reaches : ℕ → List ℕ → List ℕ → Type 0
Reaches t h cols = (i : ℕ) → i < t → RowReaches i h cols

-- a basis of the m·t parity rows, and the number of its rows
pub record ParityBasis (m t : ℕ) (h cols rows leads : List ℕ) (rank : ℕ) : Type 0 where
  pub form : Form (length cols) rows leads
  pub solves : (w : ℕ → ℕ) → Inside gf2 (length cols) w → Solves gf2 (length cols) (row_bit rows) (lead_at leads) w
      ↔ ((i b : ℕ) → i < t → b < m → dot gf2 (length cols) (parity_bit h cols i b) w ≡ 0)
  pub rank_is : rank ≡ count (length cols) (lead_at leads)

-- ---- words

-- the message's entries at the free places in rising order, and 0 at the others
unfoldable pub placed_at : ℕ → List ℕ → List ℕ → List ℕ
placed_at n leads message = tabulate n (λ p. cond (free_at leads p) (entry_of message (count p (free_at leads))) 0)

-- a word whose entries at the rows' places are as the rows say, and elsewhere as they were
pub record Completed (n : ℕ) (rows leads old new : List ℕ) : Type 0 where
  pub bits : Inside gf2 n (entry_of new)
  pub forced : (p : ℕ) → p < n → lead_at leads p ≡ true → entry_of new p ≡ rest gf2 n (row_bit rows p) (entry_of new) p
  pub kept : (p : ℕ) → p < n → lead_at leads p ≡ false → entry_of new p ≡ entry_of old p

-- a word that has the message at the free places, and elsewhere what the rows say
abbrev pub Carried : ℕ → List ℕ → List ℕ → List ℕ → List ℕ → Type 0
Carried n rows leads message word = Completed n rows leads (placed_at n leads message) word
