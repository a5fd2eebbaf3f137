use Rattle.std.proofs.Common.{ℕ, List, set, ap, ◌∙◌, refl}
use Rattle.std.specs.Vec.{with_item}
use Rattle.chain_rules.specs.Legality.{chain_at}
use Rattle.chain_rules.specs.declared.plan.Plan.{Plan}
use Rattle.chain_rules.proofs.PlanParts.{chain_read, planned-set}
use Rattle.partition_moves.specs.Roomy.{RoomyPlan}
use Rattle.partition_moves.proofs.Worked.{rooms_set}
use Rattle.partition_moves.proofs.work.Work.replace.Goals as goal

pub returns : goal.returns
returns c =
    let vs = c.self.inside.chains.items in
    let p : Plan = c.args.self.now.plan in
    let v = c.index_mut.result.now in
    let view = ap (λ (w : RoomyPlan). w.plan) c.self.view_is in
    let there = chain_read vs c.args.c v p view c.requires.chain c.index_mut.ensures.value in
    record {
      value = planned-set vs c.args.c (with_item v c.args.i c.args.unit) p (set (chain_at p c.args.c) c.args.i c.args.unit) view (ap (λ (xs : List ℕ). set xs c.args.i c.args.unit) there);
      rooms = rooms_set vs c.args.c v (with_item v c.args.i c.args.unit) c.index_mut.ensures.value refl ∙ ap (λ (w : RoomyPlan). w.rooms) c.self.view_is;
      bits = ap (λ (w : RoomyPlan). w.bits) c.self.view_is;
      least = ap (λ (w : RoomyPlan). w.least) c.self.view_is;
    }
