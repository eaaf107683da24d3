use Rattle.std.proofs.Common.{arith}
use Rattle.runner.proofs.Running.{went_none, went_then, slice_join, moves}
use Rattle.vgicrun.proofs.answer_block.Goals as goal

pub loop-from-init : goal.loop-from-init
loop-from-init c = record {
  inside = omega arith;
  run = went_none c.args.begun c.args.line.now c.args.words.now c.requires.0.some;
}

pub loop-from-smaller : goal.loop-from-smaller
loop-from-smaller c =
    let here = c.loop-from in
    let room = c.requires.1 in
    let same = here.auto.out in
    let on = moves c.args.block.now here.from here.kept here.line here.words here.out c.feed-progress.result c.feed-progress.ensures c.loop-from-test.true (omega arith) in
    let inside = c.feed-progress.ensures.inside in
    omega arith

pub loop-from-preserved : goal.loop-from-preserved
loop-from-preserved c =
    let fed = c.feed-progress.ensures in
    let here = c.loop-from in
    record {
      inside = fed.inside;
      run = rw (← slice_join c.args.block.now here.from c.feed-progress.result.consumed fed.onward fed.inside) (went_then c.args.begun c.args.line.now c.args.words.now here.invariant.run fed.run.went);
    }
