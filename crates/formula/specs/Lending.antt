-- The blocks that a call passes on to its evaluators, as what is lent for the letters.
use Rattle.formula.specs.declared.values.Blocks.{Blocks}
use Rattle.formula.specs.Letters.{Lent, lending}

abbrev pub lent : Blocks → Lent
lent blocks = lending blocks.a.now blocks.b.now blocks.c.now blocks.d.now
