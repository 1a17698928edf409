-- What is said of a width and of blocks that are lent, of the letters that an evaluator is handed.
use Rattle.std.specs.Prelude.{ℕ}
use Rattle.formula.specs.declared.values.Letters.{Letters}
use Rattle.formula.specs.Letters.{Lent}
use Rattle.formula.specs.Lending.{lent}

abbrev pub OfLetters : {A : Type 1} → (ℕ → Lent → A) → Letters → A
OfLetters P letters = P letters.m (lent letters.blocks)
