-- `acknowledge::accept` meets its contract. Assumes nothing.
use borrow.Author.Tests.{lt-ltb, le-ltb}
use Rattle.acknowledge.specs.Acknowledge.{answered, taken}
use Rattle.acknowledge.proofs.accept.Goals as goal

pub returns-then-depth-lt-STACK_CAPACITY : goal.returns-then-depth-lt-STACK_CAPACITY
unfolding answered taken
returns-then-depth-lt-STACK_CAPACITY c =
    let room = lt-ltb _ _ c.if-depth-lt-STACK_CAPACITY.true in
    (simp (← c.depth.ensures, room, c.give.ensures.0), rw (← c.depth.ensures, room) c.give.ensures.1)

pub returns-else-depth-lt-STACK_CAPACITY : goal.returns-else-depth-lt-STACK_CAPACITY
unfolding answered taken
returns-else-depth-lt-STACK_CAPACITY c =
    let full = le-ltb _ _ c.if-depth-lt-STACK_CAPACITY.false in
    (simp (← c.depth.ensures, full), simp (← c.depth.ensures, full))
