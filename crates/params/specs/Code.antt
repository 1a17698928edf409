-- The parameters of a code (01's card): width m, length n, number t of roots, offset ω and signature h; when they are accepted, and by which number
-- they are refused otherwise.
use Rattle.std.specs.Prelude.{◌≡◌, Bool, ◌&&◌, List, [], ◌∷◌, ◌++◌, ℕ, ◌/◌, ◌^◌, ◌≤◌, ◌<◌, leb, eqb, length}
use Rattle.algebra.specs.Lists.{entry_of}
use Rattle.refusals.specs.Rules.{Rule, ◌unless◌, fault}
use Rattle.field.specs.Gf.{Width, gf}
use Rattle.field.specs.Range.{is_width, is_element}
use Rattle.slices.specs.Lengths.{longest_log, is_power}
use Rattle.slices.specs.Elements.{Elements, all_elements}
use Rattle.params.specs.declared.Parameters.{Parameters}
use Rattle.signature.specs.Signature.{Conditions}
use Rattle.signature.specs.Tests.{signature_rules}

-- 2, 01's "length": "n is a power of two from 2 to" the longest length
unfoldable pub is_length : ℕ → Bool
is_length n = leb 2 n && is_power n

-- 7, 01's "rows": "t is a power of two from 1 to n/2"
unfoldable pub is_root_count : ℕ → ℕ → Bool
is_root_count n t = is_power t && leb t (n / 2)

-- 1 to 3. `buffers` says that the buffers lent to the call have the lengths that the call names
unfoldable pub shape_rules : Bool → Parameters → List ℕ → List Rule
shape_rules buffers c h =
    (1 unless is_width c.m) ∷ (2 unless is_length c.n) ∷ (2 unless eqb (length h) c.n) ∷ (2 unless buffers)
    ∷ (3 unless all_elements c.m h) ∷ (3 unless is_element c.m c.omega) ∷ []

-- the rules of 01 for a code, in 01's order
unfoldable pub code_rules : Bool → Parameters → List ℕ → List Rule
code_rules buffers c h = shape_rules buffers c h ++ (signature_rules c.m h ++ (7 unless is_root_count c.n c.t) ∷ [])

-- the number that refuses a code, or 0
unfoldable pub code_fault : Bool → Parameters → List ℕ → ℕ
code_fault buffers c h = fault (code_rules buffers c h)

-- what holds of m, n, t and h where 1, 2, 3 and 7 do not apply
pub record Limits (c : Parameters) (h : List ℕ) : Type 0 where
  pub width : Width c.m
  pub e : ℕ
  pub n_power : c.n ≡ 2 ^ e
  pub n_low : 2 ≤ c.n
  pub n_high : e ≤ longest_log
  pub h_length : length h ≡ c.n
  pub h_in : Elements c.m h
  pub f : ℕ
  pub t_power : c.t ≡ 2 ^ f
  pub t_high : c.t ≤ c.n / 2

-- "A card is accepted if it keeps every rule for cards and its signature is accepted."
pub record Accepted (c : Parameters) (h : List ℕ) : Type 0 where
  pub limits : Limits c h
  pub ω_in : c.omega < 2 ^ c.m
  pub conditions : Conditions (gf c.m) c.n (entry_of h)

-- the code with another offset
abbrev pub with_offset : Parameters → ℕ → Parameters
with_offset c ω = record { m = c.m; n = c.n; t = c.t; omega = ω }
