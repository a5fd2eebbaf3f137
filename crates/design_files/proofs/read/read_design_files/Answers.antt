use Rattle.std.proofs.Common.{◌≡◌, ℕ, List, Option, option_map, inl, inr, refl}
use Rattle.std.proofs.lemmas.Result.{err_from_is_err_and}
use Rattle.chain_trace.specs.declared.path.Path.{Path}
use Rattle.stil_types.specs.declared.head.StilHead.{StilHead}
use Rattle.design_files.specs.declared.files.Files.{Files}
use Rattle.design_files.specs.declared.read.DesignFiles.{DesignFiles}
use Rattle.design_files.specs.declared.traced.Agreed.{Agreed}
use Rattle.design_files.specs.declared.ruled.Ruled.{Ruled}
use Rattle.design_files.specs.Files.{Texts, texts_with}
use Rattle.design_files.specs.Faults.{IsFilesFault}
use Rattle.design_files.specs.Stages.{AreKnown, IsFirstOfKnown}
use Rattle.design_files.proofs.Known.{carried, none_of_all}
use Rattle.design_files.proofs.read.read_design_files.Goals as goal

pub returns-in_err-files-clause-fault : goal.returns-in_err-files-clause-fault
returns-in_err-files-clause-fault c =
    let p = err_from_is_err_and c.from_residual.result c.from_residual.ensures.1 in
    let t = texts_with c.args.table.now c.args.lef.now c.args.verilog.now c.args.def.now (option_map (λ text. text.now) c.args.head) in
    rw (p.1, p.2)
    (carried Files DesignFiles c.in_err-files.field-0.0 (λ x. (head : Option (List ℕ)) → IsFilesFault (texts_with c.args.table.now c.args.lef.now c.args.verilog.now c.args.def.now head) x) (IsFilesFault t) (λ x w. w t.head) c.in_err-files.ensures.fault)

pub returns-in_err-agreed-clause-fault : goal.returns-in_err-agreed-clause-fault
returns-in_err-agreed-clause-fault c =
    let p = err_from_is_err_and c.from_residual-in_err-agreed.result c.from_residual-in_err-agreed.ensures.1 in
    let t = texts_with c.args.table.now c.args.lef.now c.args.verilog.now c.args.def.now (option_map (λ text. text.now) c.args.head) in
    let f = c.in_ok-files.files in
    rw (p.1, p.2)
    (carried Agreed DesignFiles c.in_err-agreed.field-0.0 (λ x. (s : Texts) → AreKnown s f.table f.macros f.netlist f.design → IsFilesFault s x) (IsFilesFault t) (λ x w. w t (c.in_ok-files.ensures.known t.head)) c.in_err-agreed.ensures.fault)

pub returns-in_err-head-clause-fault : goal.returns-in_err-head-clause-fault
returns-in_err-head-clause-fault c =
    let p = err_from_is_err_and c.from_residual-in_err-head.result c.from_residual-in_err-head.ensures.1 in
    let t = texts_with c.args.table.now c.args.lef.now c.args.verilog.now c.args.def.now (option_map (λ text. text.now) c.args.head) in
    let f = c.in_ok-files.files in
    rw (p.1, p.2)
    (carried (Option StilHead) DesignFiles c.in_err-head.field-0.0 (λ x. (s : Texts) → s.head ≡ t.head → AreKnown s f.table f.macros f.netlist f.design → IsFilesFault s x) (IsFilesFault t)
    (λ x w. w t refl (c.in_ok-files.ensures.known t.head)) c.in_err-head.ensures.fault)

pub returns-in_err-paths-clause-fault : goal.returns-in_err-paths-clause-fault
returns-in_err-paths-clause-fault c =
    let p = err_from_is_err_and c.from_residual-in_err-paths.result c.from_residual-in_err-paths.ensures.1 in
    let t = texts_with c.args.table.now c.args.lef.now c.args.verilog.now c.args.def.now (option_map (λ text. text.now) c.args.head) in
    let f = c.in_ok-files.files in
    rw (p.1, p.2)
    (carried (List Path) DesignFiles c.in_err-paths.field-0.0 (IsFirstOfKnown f.table f.macros f.netlist f.design c.in_ok-head.head) (IsFilesFault t)
    (λ x w. w t (c.in_ok-files.ensures.known t.head) c.in_ok-head.ensures.known) c.in_err-paths.ensures.fault)

pub returns-in_err-ruled-clause-fault : goal.returns-in_err-ruled-clause-fault
returns-in_err-ruled-clause-fault c =
    let p = err_from_is_err_and c.from_residual-in_err-ruled.result c.from_residual-in_err-ruled.ensures.1 in
    let t = texts_with c.args.table.now c.args.lef.now c.args.verilog.now c.args.def.now (option_map (λ text. text.now) c.args.head) in
    let f = c.in_ok-files.files in
    rw (p.1, p.2)
    (carried Ruled DesignFiles c.in_err-ruled.field-0.0 (IsFirstOfKnown f.table f.macros f.netlist f.design c.in_ok-head.head) (IsFilesFault t)
    (λ x w. w t (c.in_ok-files.ensures.known t.head) c.in_ok-head.ensures.known) c.in_err-ruled.ensures.fault)

pub returns-clause-files : goal.returns-clause-files
returns-clause-files c =
    let ruled = c.in_ok-ruled.ensures in
    record {
      known = c.in_ok-files.ensures.known (option_map (λ text. text.now) c.args.head);
      head = c.in_ok-head.ensures.known;
      sound = c.in_ok-files.ensures.sound;
      agreed = c.in_ok-agreed.ensures.agreed;
      chains = c.in_ok-agreed.ensures.chains;
      paths = c.in_ok-paths.ensures.paths;
      inside = ruled.inside;
      none = ruled.none;
      rules = ruled.rules;
      legal = ruled.legal;
      ends = ruled.ends;
      placed = ruled.placed;
      plan = ruled.plan;
    }

pub returns-clause-no_fault : goal.returns-clause-no_fault
returns-clause-no_fault c =
    let t = texts_with c.args.table.now c.args.lef.now c.args.verilog.now c.args.def.now (option_map (λ text. text.now) c.args.head) in
    let f = c.in_ok-files.files in
    none_of_all t f.table f.macros f.netlist f.design (c.in_ok-files.ensures.known t.head) c.in_ok-agreed.ensures.agreed c.in_ok-head.head c.in_ok-head.ensures.known
    c.in_ok-paths.paths.items c.in_ok-paths.ensures.paths c.in_ok-ruled.ensures.inside
    (λ x last. elim last [ inl chain ↦ c.in_ok-ruled.ensures.none.no_chain x chain | inr place ↦ c.in_ok-ruled.ensures.none.no_place x place ])
