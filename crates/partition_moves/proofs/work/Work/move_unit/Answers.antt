use Rattle.std.proofs.Common.{◌≡◌, ℕ, ◌<◌, List, length, get_or, set, insert, remove, sym, ap, ◌∙◌, arith}
use Rattle.std.specs.Prelude.{vec_capacity, vec_len}
use Rattle.std.proofs.lemmas.List.{get_or_default, length-set}
use Rattle.chain_rules.specs.Legality.{chain_at, taken_out, unit_in}
use Rattle.chain_rules.specs.Plans.{plan_of}
use Rattle.chain_rules.specs.declared.plan.Plan.{Plan}
use Rattle.chain_rules.proofs.PlanParts.{chain_read, planned-set}
use Rattle.order_search.specs.Trials.{at}
use Rattle.partition_moves.specs.Roomy.{RoomyPlan, room_in, rooms_of}
use Rattle.partition_moves.proofs.Worked.{inserted, room_read, rooms_set, vector_there}
use Rattle.partition_moves.proofs.work.Work.move_unit.Goals as goal

pub unwrap-requires : goal.unwrap-requires
unwrap-requires c =
    let vs = c.self.inside.chains.items in
    let p : Plan = c.args.self.now.plan in
    let v = c.index_mut.result.now in
    let view = ap (λ (w : RoomyPlan). w.plan) c.self.view_is in
    let rest : List ℕ = remove (chain_at p c.args.c) c.args.i in
    let there = chain_read vs c.args.c v p view c.requires.chain c.index_mut.ensures.value in
    let e : plan_of (set vs c.args.c c.remove-unit.new.self) ≡ taken_out p (at c.args.c c.args.i) = planned-set vs c.args.c c.remove-unit.new.self p rest view (c.remove-unit.ensures.items ∙ ap (λ (us : List ℕ). remove us c.args.i) there) in
    let other : c.args.d < length (set p.chains c.args.c rest) = omega (arith, length-set p.chains c.args.c rest, c.requires.other) in
    let to = chain_read (set vs c.args.c c.remove-unit.new.self) c.args.d c.index_mut-2.result.now (taken_out p (at c.args.c c.args.i)) e other c.index_mut-2.ensures.value in
    let kept : rooms_of (set vs c.args.c c.remove-unit.new.self) ≡ c.args.self.now.rooms = rooms_set vs c.args.c v c.remove-unit.new.self c.index_mut.ensures.value c.remove-unit.ensures.capacity ∙ ap (λ (w : RoomyPlan). w.rooms) c.self.view_is in
    let read = room_read (set vs c.args.c c.remove-unit.new.self) c.args.d c.index_mut-2.result.now (vector_there (set vs c.args.c c.remove-unit.new.self) (taken_out p (at c.args.c c.args.i)) c.args.d e other) c.index_mut-2.ensures.value in
    let room : vec_len c.index_mut-2.result.now < vec_capacity c.index_mut-2.result.now = omega (arith, c.index_mut-2.result.now.ok.0, ap length to, ap (λ (ns : List ℕ). room_in ns c.args.d) kept, read, c.requires.room) in
    c.insert.ensures.succeeds room

pub returns : goal.returns
returns c =
    let vs = c.self.inside.chains.items in
    let p : Plan = c.args.self.now.plan in
    let v = c.index_mut.result.now in
    let view = ap (λ (w : RoomyPlan). w.plan) c.self.view_is in
    let rest : List ℕ = remove (chain_at p c.args.c) c.args.i in
    let there = chain_read vs c.args.c v p view c.requires.chain c.index_mut.ensures.value in
    let e : plan_of (set vs c.args.c c.remove-unit.new.self) ≡ taken_out p (at c.args.c c.args.i) = planned-set vs c.args.c c.remove-unit.new.self p rest view (c.remove-unit.ensures.items ∙ ap (λ (us : List ℕ). remove us c.args.i) there) in
    let other : c.args.d < length (set p.chains c.args.c rest) = omega (arith, length-set p.chains c.args.c rest, c.requires.other) in
    let to = chain_read (set vs c.args.c c.remove-unit.new.self) c.args.d c.index_mut-2.result.now (taken_out p (at c.args.c c.args.i)) e other c.index_mut-2.ensures.value in
    let kept : rooms_of (set vs c.args.c c.remove-unit.new.self) ≡ c.args.self.now.rooms = rooms_set vs c.args.c v c.remove-unit.new.self c.index_mut.ensures.value c.remove-unit.ensures.capacity ∙ ap (λ (w : RoomyPlan). w.rooms) c.self.view_is in
    let read = room_read (set vs c.args.c c.remove-unit.new.self) c.args.d c.index_mut-2.result.now (vector_there (set vs c.args.c c.remove-unit.new.self) (taken_out p (at c.args.c c.args.i)) c.args.d e other) c.index_mut-2.ensures.value in
    let room : vec_len c.index_mut-2.result.now < vec_capacity c.index_mut-2.result.now = omega (arith, c.index_mut-2.result.now.ok.0, ap length to, ap (λ (ns : List ℕ). room_in ns c.args.d) kept, read, c.requires.room) in
    let unit : c.remove-unit.result ≡ unit_in p (at c.args.c c.args.i) = c.remove-unit.ensures.value ∙ ap (λ (us : List ℕ). get_or us c.args.i c.remove-unit.result) there ∙ sym (get_or_default (chain_at p c.args.c) c.args.i 0 c.remove-unit.result c.requires.place) in
    let put : c.insert.new.self.items ≡ insert (chain_at (taken_out p (at c.args.c c.args.i)) c.args.d) c.args.j (unit_in p (at c.args.c c.args.i))
    = inserted c.insert.new.self.items c.index_mut-2.result.now.items (chain_at (taken_out p (at c.args.c c.args.i)) c.args.d) c.args.j c.remove-unit.result (unit_in p (at c.args.c c.args.i)) c.insert.result c.unwrap.result c.insert.ensures.items c.unwrap.ensures to unit
    in
    record {
      value = planned-set (set vs c.args.c c.remove-unit.new.self) c.args.d c.insert.new.self (taken_out p (at c.args.c c.args.i)) (insert (chain_at (taken_out p (at c.args.c c.args.i)) c.args.d) c.args.j (unit_in p (at c.args.c c.args.i))) e put;
      rooms = rooms_set (set vs c.args.c c.remove-unit.new.self) c.args.d c.index_mut-2.result.now c.insert.new.self c.index_mut-2.ensures.value (c.insert.ensures.in_place room).1.0 ∙ kept;
      bits = ap (λ (w : RoomyPlan). w.bits) c.self.view_is;
      least = ap (λ (w : RoomyPlan). w.least) c.self.view_is;
    }
