-- Which unit may go to the chain with the most room, and when none may.
use Rattle.std.proofs.Common.{◌≡◌, ℕ, ◌<◌, ◌≤◌, List, length, sym, ap, subst, arith}
use Rattle.chain_rules.specs.declared.plan.Plan.{Plan}
use Rattle.chain_rules.specs.declared.unit.Rules.{Rules}
use Rattle.chain_rules.specs.Legality.{IsLegal}
use Rattle.chain_balance.specs.declared.gains.Gain.{Gain}
use Rattle.chain_balance.specs.declared.rooms.Roomiest.{Roomiest}
use Rattle.chain_balance.specs.Gains.{AreHeld, OneMayGo, NoGain, GivesNone, IsGainTo, at_place}
use Rattle.chain_balance.specs.Rooms.{group_of, AreGroups, room_at, best_at, IsRoomy, AreRoomiest}
use Rattle.chain_balance.proofs.Leaving.{may_go_to, Goes, goes, with_room}

-- a unit that can leave may go to the chain with the most room
pub may_go_best : (rules : Rules) (plan : Plan) (loads held groups : List ℕ) (best : List Roomiest) (most giver : ℕ) (b : Roomiest) (gain : Gain) → IsLegal rules plan → AreHeld rules plan held → AreGroups rules groups
    → AreRoomiest groups (room_at rules loads held most) best (length rules.chains) → giver < length rules.chains → b ≡ best_at best (group_of groups giver) → IsGainTo rules loads most plan b giver gain
    → OneMayGo rules loads most plan (at_place gain.giver gain.place) (at_place gain.taker 0)
may_go_best rules plan loads held groups best most giver b gain legal are_held are_groups are l e is =
    let some : 0 < b.room = omega (arith, is.can.some, is.can.fits) in
    let roomy : IsRoomy groups (room_at rules loads held most) (length rules.chains) (group_of groups giver) b
    = subst (λ (x : Roomiest). IsRoomy groups (room_at rules loads held most) (length rules.chains) (group_of groups giver) x) (sym e) (are.each (group_of groups giver) (omega (arith, some, ap (λ x. x.room) e))) in
    let one : OneMayGo rules loads most plan (at_place giver gain.place) (at_place b.chain 0)
    = may_go_to rules plan loads held most giver b.chain gain.place b.room (record { legal = legal; are_held = are_held; is_giver = l; is_taker = roomy.is_chain })
    (are_groups.apart giver b.chain l roomy.is_chain (sym roomy.of_group)) is.is_top roomy.room_is is.can in
    subst (λ (g : ℕ). OneMayGo rules loads most plan (at_place g gain.place) (at_place gain.taker 0)) (sym is.is_giver)
    (subst (λ (t : ℕ). OneMayGo rules loads most plan (at_place giver gain.place) (at_place t 0)) (sym is.is_taker) one)

-- where none can leave with so much room, none may go
pub no_gain : (rules : Rules) (plan : Plan) (loads held groups : List ℕ) (best : List Roomiest) (most : ℕ) → IsLegal rules plan → AreHeld rules plan held → AreGroups rules groups
    → AreRoomiest groups (room_at rules loads held most) best (length rules.chains) → ((giver : ℕ) → giver < length rules.chains → GivesNone rules loads most plan (best_at best (group_of groups giver)).room giver)
    → NoGain rules loads most plan
no_gain rules plan loads held groups best most legal are_held are_groups are none giver taker l m place below may =
    let g : giver < length rules.chains = omega (arith, l, legal.chains) in
    let t : taker < length rules.chains = omega (arith, m, legal.chains) in
    let it : Goes rules plan loads held most giver taker place = goes rules plan loads held most giver taker place (record { legal = legal; are_held = are_held; is_giver = g; is_taker = t }) below may in
    let more : room_at rules loads held most taker ≤ (best_at best (group_of groups giver)).room
    = omega (arith, are.none_more taker t, ap (λ h. (best_at best h).room) (are_groups.alike giver taker g t it.same)) in
    none giver g it.is_top place (with_room rules plan giver (room_at rules loads held most taker) (best_at best (group_of groups giver)).room place more it.can)
