-- The cells of the paths of a made design are placed.
use Rattle.std.proofs.Common.{◌≡◌, ℕ, ◌<◌, ◌≤◌, false, Contains, refl, ap, ◌∙◌, subst, arith}
use Rattle.std.proofs.lemmas.Bool.{both_ways}
use Rattle.chain_trace.specs.declared.path.Step.{Step}
use Rattle.chain_trace.specs.declared.path.Path.{Path}
use Rattle.design_places.specs.Ends.{is_nowhere}
use Rattle.design_maker.specs.Chains.{chain_length, unit_of}
use Rattle.made_law.specs.Designs.Places.{Places}
use Rattle.made_law.specs.Designs.MadeMacros.{made_macros}
use Rattle.made_law.specs.Designs.MadeChains.{chain_numbers, element_numbers}
use Rattle.made_law.specs.Designs.MadeDesign.{made_design}
use Rattle.made_law.specs.Paths.MadeNetlist.{NetlistPlaces, made_netlist}
use Rattle.made_law.specs.Paths.MadePaths.{made_step, made_path}
use Rattle.made_law.proofs.paths.Sources.{instance_at}
use Rattle.made_law.specs.Checks.MadeAsked.{made_paths}
use Rattle.made_law.specs.Checks.Laws.{PlacesLaw}
use Rattle.made_law.proofs.checks.Members.{of_map, number_in_range}
use Rattle.made_law.proofs.checks.Units.{component_found, unit_within}

-- a step of one of the paths
pub record IsStepOf (n : ℕ) (step : Step) : Type 0 where
  pub chain : ℕ
  pub number : ℕ
  pub low : chain < 8
  pub within : number < chain_length n chain
  pub is : step ≡ made_step chain number

pub step_of : (n : ℕ) (path : Path) (step : Step) → Contains (made_paths n) path → Contains path.steps step → IsStepOf n step
step_of n path step there on =
    let p = of_map (made_path n) chain_numbers path there in
    let s = of_map (made_step p.member) (element_numbers n p.member) step (subst (λ (q : Path). Contains q.steps step) p.is on) in
    record {
      chain = p.member;
      number = s.member;
      low = (let q = (number_in_range 0 8 p.member p.there).1 in omega (arith, q));
      within = (let q = (number_in_range 0 (chain_length n p.member) s.member s.there).1 in omega (arith, q));
      is = s.is;
    }

placed_step : (n : ℕ) (v : NetlistPlaces) (d : Places) (k t : ℕ) → n ≤ 16384 → unit_of k t < n → is_nowhere (made_netlist v n) made_macros (made_design d n) (made_step k t) ≡ false
placed_step n v d k t most lt = rw (instance_at n v (unit_of k t) lt, (component_found n d.components (unit_of k t) most lt).1) refl

pub places_right : PlacesLaw
places_right n v d some most fault h =
    let s = step_of n h.path h.step h.there h.on in
    both_ways (is_nowhere (made_netlist v n) made_macros (made_design d n) h.step) (ap (is_nowhere (made_netlist v n) made_macros (made_design d n)) s.is ∙ placed_step n v d s.chain s.number most (unit_within n s.chain s.number some s.low s.within)) h.nowhere
