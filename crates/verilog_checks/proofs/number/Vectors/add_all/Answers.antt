use Rattle.std.proofs.Common.{◌+◌, List, ℕ, ◌++◌, Some, map, take, get_or, sym, ap, ◌∙◌, subst, arith}
use Rattle.verilog_names.specs.Values.{unescaped}
use Rattle.verilog_names.specs.Declarations.{Declaration, declaration_of}
use Rattle.verilog_checks.specs.Steps.{AreCounted}
use Rattle.verilog_checks.proofs.Counting.{front_more, front_within}
use Rattle.verilog_checks.proofs.number.Vectors.add_all.Goals as goal

pub returns-then-self-gt-MOST_BITS-clause-counted : goal.returns-then-self-gt-MOST_BITS-clause-counted
returns-then-self-gt-MOST_BITS-clause-counted c = λ kind range e ds h.
    let f : List ℕ → Declaration = declaration_of kind (Some range) in
    let names : List (List ℕ) = c.args.names.now in
    let i : ℕ = c.loop-name.name-index in
    let before = c.loop-name.invariant.counted kind range e ds h in
    let is = c.in_ok-add.ensures.counted (ds ++ map f (take i names)) (f (get_or names i c.name-item.result)) (sym (c.unescaped.ensures.value ∙ ap unescaped c.name-item.is)) (ap Some e) before in
    let now = subst (AreCounted c.add.new.self) (front_more f ds names i c.name-item.result c.loop-name-test.true) is in
    let within = front_within f ds names (i + 1) in
    omega (arith, now.bits, within, c.if-self-gt-MOST_BITS.true)

pub loop-name-preserved : goal.loop-name-preserved
loop-name-preserved c = record {
  small = omega arith;
  counted = λ kind range e ds h.
      let f : List ℕ → Declaration = declaration_of kind (Some range) in
      let names : List (List ℕ) = c.args.names.now in
      let i : ℕ = c.loop-name.name-index in
      let before = c.loop-name.invariant.counted kind range e ds h in
      let is = c.in_ok-add.ensures.counted (ds ++ map f (take i names)) (f (get_or names i c.name-item.result)) (sym (c.unescaped.ensures.value ∙ ap unescaped c.name-item.is)) (ap Some e) before in
      subst (AreCounted c.add.new.self) (front_more f ds names i c.name-item.result c.loop-name-test.true) is;
}
