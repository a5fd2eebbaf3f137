use Rattle.plan_paths.proofs.Arranged.{rearranged}
use Rattle.plan_paths.proofs.ReadOff.{read_off}
use Rattle.plan_paths.proofs.laws.plan_law.Goals as goal

pub returns : goal.returns
returns c = record {
  plan = λ N n cells old chains rules plan are legal reads frees outputs pins. rearranged N old chains rules plan are legal n cells reads frees outputs pins;
  read_off = λ N old chains rules p q are lp lq same. read_off N old chains rules p q are lp lq same;
}
