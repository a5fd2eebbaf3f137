-- A scan output has at most one path: going backward, each sink tells its source.
use Rattle.std.proofs.Common.{◌≡◌, List, [], ◌∷◌, ◌++◌, refl, sym, ap, ◌∙◌, subst}
use Rattle.std.specs.Prelude.{reverse}
use Rattle.std.proofs.lemmas.List.{reverse-append, reverse-reverse, append_assoc, append-nil}
use Rattle.netlist_core.specs.declared.netlist.NetId.{NetId}
use Rattle.netlist_core.specs.declared.netlist.Netlist.{Netlist}
use Rattle.cell_table.specs.Cells.{Cells}
use Rattle.chain_trace.specs.declared.path.Step.{Step}
use Rattle.chain_trace.specs.declared.path.Path.{Path}
use Rattle.chain_trace.specs.declared.path.Source.{Source}
use Rattle.chain_trace.specs.declared.path.Source.TheVariants as sources
use Rattle.chain_trace.specs.declared.path.Sink.{Sink}
use Rattle.chain_trace.specs.declared.path.Sink.TheVariants as sinks
use Rattle.chain_trace.specs.Paths.{IsOnlySource, Leads, IsScanPath}

-- backward from a sink over steps, the nearest first, to a port
abbrev pub Backs : Netlist → Cells → Sink → List Step → NetId → Type 0
Backs n cells sink [] input = IsOnlySource n cells (sources.Port input) sink
Backs n cells sink (step ∷ steps) input =
    IsOnlySource n cells (sources.Out step) sink × Backs n cells (sinks.In step.instance step.path) steps input

-- what stands before a source
abbrev pub BacksFrom : Netlist → Cells → Source → List Step → NetId → Type 0
BacksFrom n cells (sources.Port net) [] input = net ≡ input
BacksFrom n cells (sources.Port net) (t ∷ ts) input = ⊥
BacksFrom n cells (sources.Out step) [] input = ⊥
BacksFrom n cells (sources.Out step) (t ∷ ts) input = (step ≡ t) × Backs n cells (sinks.In step.instance step.path) ts input

backs_at : (n : Netlist) (cells : Cells) (source : Source) (done : List Step) (sink : Sink) (input : NetId)
    → IsOnlySource n cells source sink → BacksFrom n cells source done input → Backs n cells sink done input
backs_at n cells (sources.Port net) [] sink input only b = subst (λ (i : NetId). IsOnlySource n cells (sources.Port i) sink) b only
backs_at n cells (sources.Port net) (t ∷ ts) sink input only b = absurd b
backs_at n cells (sources.Out step) [] sink input only b = absurd b
backs_at n cells (sources.Out step) (t ∷ ts) sink input only b =
    subst (λ (s : Step). IsOnlySource n cells (sources.Out s) sink × Backs n cells (sinks.In s.instance s.path) ts input) b.0 (only, b.1)

reverse_step : (step : Step) (steps done : List Step) → reverse (step ∷ steps) ++ done ≡ reverse steps ++ (step ∷ done)
reverse_step step steps done =
    ap (λ (xs : List Step). xs ++ done) (reverse-append (step ∷ []) steps) ∙ append_assoc (reverse steps) (step ∷ []) done

backs_onto : (n : Netlist) (cells : Cells) (steps : List Step) (source : Source) (done : List Step) (sink : Sink) (input : NetId)
    → Leads n cells source steps sink → BacksFrom n cells source done input → Backs n cells sink (reverse steps ++ done) input
backs_onto n cells [] source done sink input leads b = backs_at n cells source done sink input leads b
backs_onto n cells (step ∷ steps) source done sink input leads b =
    subst (λ (xs : List Step). Backs n cells sink xs input) (sym (reverse_step step steps done))
    (backs_onto n cells steps (sources.Out step) (step ∷ done) sink input leads.1
    (refl, backs_at n cells source done (sinks.In step.instance step.path) input leads.0 b))

-- a path read backward
pub backs : (n : Netlist) (cells : Cells) (steps : List Step) (sink : Sink) (input : NetId)
    → Leads n cells (sources.Port input) steps sink → Backs n cells sink (reverse steps) input
backs n cells steps sink input leads =
    subst (λ (xs : List Step). Backs n cells sink xs input) (append-nil (reverse steps)) (backs_onto n cells steps (sources.Port input) [] sink input leads refl)

-- one more step at the end of a path
leads_push : (n : Netlist) (cells : Cells) (steps : List Step) (source : Source) (step : Step) (sink : Sink)
    → Leads n cells source steps (sinks.In step.instance step.path) → IsOnlySource n cells (sources.Out step) sink → Leads n cells source (steps ++ step ∷ []) sink
leads_push n cells [] source step sink leads only = (leads, only)
leads_push n cells (t ∷ ts) source step sink leads only = (leads.0, leads_push n cells ts (sources.Out t) step sink leads.1 only)

-- what was read backward, read forward
pub leads : (n : Netlist) (cells : Cells) (steps : List Step) (sink : Sink) (input : NetId)
    → Backs n cells sink steps input → Leads n cells (sources.Port input) (reverse steps) sink
leads n cells [] sink input b = b
leads n cells (step ∷ steps) sink input b =
    subst (λ (xs : List Step). Leads n cells (sources.Port input) xs sink) (sym (reverse-append (step ∷ []) steps))
    (leads_push n cells (reverse steps) (sources.Port input) step sink (leads n cells steps (sinks.In step.instance step.path) input b.1) b.0)

abbrev step_of : Source → Step → Step
step_of (sources.Port net) d = d
step_of (sources.Out step) d = step

abbrev port_of : Source → NetId → NetId
port_of (sources.Port net) d = net
port_of (sources.Out step) d = d

pub same_step : (a b : Step) → sources.Out a ≡ sources.Out b → a ≡ b
same_step a b e = ap (λ (s : Source). step_of s a) e

pub same_port : (a b : NetId) → sources.Port a ≡ sources.Port b → a ≡ b
same_port a b e = ap (λ (s : Source). port_of s a) e

abbrev IsPort : Source → Type 0
IsPort (sources.Port net) = Unit {0}
IsPort (sources.Out step) = ⊥

pub not_both : (a : NetId) (b : Step) → sources.Port a ≡ sources.Out b → ⊥
not_both a b e = subst IsPort e tt

pub record AreSame (xs ys : List Step) (i j : NetId) : Type 0 where
  pub steps : xs ≡ ys
  pub input : i ≡ j

cons_same : (x y : Step) (xs ys : List Step) → x ≡ y → xs ≡ ys → (x ∷ xs) ≡ (y ∷ ys)
cons_same x y xs ys e f = ap (λ (z : Step). z ∷ xs) e ∙ ap (λ (zs : List Step). y ∷ zs) f

backs_unique : (n : Netlist) (cells : Cells) (xs ys : List Step) (sink : Sink) (i j : NetId)
    → Backs n cells sink xs i → Backs n cells sink ys j → AreSame xs ys i j
backs_unique n cells [] [] sink i j a b = record { steps = refl; input = same_port i j (b.only (sources.Port i) a.feeds) }
backs_unique n cells [] (y ∷ ys) sink i j a b = absurd (not_both i y (b.0.only (sources.Port i) a.feeds))
backs_unique n cells (x ∷ xs) [] sink i j a b = absurd (not_both j x (a.0.only (sources.Port j) b.feeds))
backs_unique n cells (x ∷ xs) (y ∷ ys) sink i j a b =
    let e : x ≡ y = same_step x y (b.0.only (sources.Out x) a.0.feeds) in
    let more : Backs n cells (sinks.In y.instance y.path) xs i = subst (λ (s : Step). Backs n cells (sinks.In s.instance s.path) xs i) e a.1 in
    let rest = backs_unique n cells xs ys (sinks.In y.instance y.path) i j more b.1 in
    record { steps = cons_same x y xs ys e rest.steps; input = rest.input }

path_same : (p q : Path) → p.input ≡ q.input → p.output ≡ q.output → p.steps ≡ q.steps → p ≡ q
path_same p q ei eo es =
    ap (λ (i : NetId). record { input = i; output = p.output; steps = p.steps }) ei
    ∙ ap (λ (o : NetId). record { input = q.input; output = o; steps = p.steps }) eo
    ∙ ap (λ (s : List Step). record { input = q.input; output = q.output; steps = s }) es

pub path_unique : (n : Netlist) (cells : Cells) (output : NetId) (p q : Path) → IsScanPath n cells output p → IsScanPath n cells output q → p ≡ q
path_unique n cells output p q a b =
    let same = backs_unique n cells (reverse p.steps) (reverse q.steps) (sinks.Port output) p.input q.input
    (backs n cells p.steps (sinks.Port output) p.input a.leads) (backs n cells q.steps (sinks.Port output) q.input b.leads) in
    path_same p q same.input (a.ends ∙ sym b.ends)
    (sym (reverse-reverse p.steps) ∙ ap (λ (xs : List Step). reverse xs) same.steps ∙ reverse-reverse q.steps)
