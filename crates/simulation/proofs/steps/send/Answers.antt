-- `send` meets its contract: what is written is turned.
use mathlib.Core.Path.{ap, ◌∙◌, subst}
use Prim.Native.Nat.{ℕ}
use lib.ListN.{length}
use Rattle.basis.specs.Table.{Carried}
use Rattle.gears.specs.Rows.{row_message}
use Rattle.nearest.specs.Turned.{turned}
use Rattle.simulation.specs.Ride.{is_marked}
use Rattle.simulation.proofs.steps.send.Goals as goal

pub returns : goal.returns
returns c =
    let a = c.args in
    let written = c.write in
    let word = written.new.word in
    let long = written.auto.word in
    record {
      word = word;
      carried =
          subst
          (λ (lamp : ℕ). Carried (length a.word.now) a.basis.now.rows a.basis.now.leads (row_message (length a.message.now) a.row.gear lamp) word)
          c.into.ensures.0 written.ensures;
      long = long;
      turned_is = c.turn.ensures ∙ ap (λ (n : ℕ). turned n (is_marked a.marks.now) word) long;
    }
