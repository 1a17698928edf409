-- `offer_on` meets its contract: 18, 19, 8, or the word in the sender's part, which then waits.
use native.Mathlib.Omega.{arith}
use lib.ListN.{length}
use Rattle.algebra.specs.PartLaws.{part_returned}
use Rattle.scheduler.proofs.Beginning.{offer_refused, offer_done, offer_marked, offer_inside}
use Rattle.scheduler.proofs.offer_on.Goals as goal

pub returns-in_err-check_offer : goal.returns-in_err-check_offer
returns-in_err-check_offer c =
    let a = c.args in
    offer_refused a.d a.sender a.word.now a.waiting.now a.words.now _ c.in_err-check_offer.ensures c.from_residual.ensures.1

pub overflow_mul-start : goal.overflow_mul-start
overflow_mul-start c =
    omega (arith, offer_inside c.requires c.args.sender c.in_ok-check_offer.ensures)

pub overflow_add-end : goal.overflow_add-end
overflow_add-end c =
    omega (arith, offer_inside c.requires c.args.sender c.in_ok-check_offer.ensures)

pub slice_bounds-copy-end : goal.slice_bounds-copy-end
slice_bounds-copy-end c =
    offer_inside c.requires c.args.sender c.in_ok-check_offer.ensures

pub bounds-waiting-sender : goal.bounds-waiting-sender
bounds-waiting-sender c =
    offer_marked c.requires c.args.sender c.in_ok-check_offer.ensures

pub returns : goal.returns
returns c =
    let a = c.args in
    offer_done a.d a.sender a.word.now a.waiting.now a.words.now c.in_ok-check_offer.ensures
    (part_returned (length a.word.now) a.words.now a.sender c.copy.ensures)
