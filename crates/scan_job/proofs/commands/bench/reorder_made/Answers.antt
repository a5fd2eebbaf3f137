use Rattle.std.proofs.Common.{◌≡◌, Some, None, length, refl, arith, ap}
use Rattle.std.proofs.lemmas.Result.{err_from_is_err_and}
use Rattle.design_files.specs.Files.{texts_of, texts_with, with_head}
use Rattle.scan_job.specs.declared.patterns.Made.{Made}
use Rattle.scan_job.proofs.Benched.{head_shows_in, planned_with, files_refused, fits, denotes, is_said, none_made, patterns_refused}
use Rattle.scan_job.proofs.commands.bench.reorder_made.Goals as goal

pub pattern_figures-requires : goal.pattern_figures-requires
pattern_figures-requires g c =
    let t = texts_of c.args.files.now.table c.args.files.now.lef c.args.files.now.verilog c.args.files.now.def in
    let stil = c.args.files.now.stil in
    let bytes = c.bytes-stil.result.now in
    let text = c.split_at.result.0.now in
    let few = c.requires.small.stil in
    let shows = head_shows_in stil bytes text c.head_len.result c.bytes-stil.ensures.value few c.head_len.ensures.value c.split_at.ensures.front in
    let u = texts_with c.bytes.result.now c.bytes-2.result.now c.bytes-3.result.now c.bytes-4.result.now (Some text) in
    let same : u ≡ with_head t text = rw (c.bytes.ensures.value, c.bytes-2.ensures.value, c.bytes-3.ensures.value, c.bytes-4.ensures.value) refl in
    let made = c.in_ok-_verilog.field-0 in
    let reordered = planned_with t u text made c.in-Some.plan same c.in-Some.is c.in_ok-_verilog.ensures.reordered in
    let written : Made = record { verilog = made.verilog; def = made.def; figures = made.figures; note = None } in
    record {
      size = omega (arith, few, ap length c.bytes-stil.ensures.value);
      denoted = denotes t stil bytes text c.bytes-stil.ensures.value shows written c.in-Some.plan reordered;
      fits = fits t stil bytes text c.bytes-stil.ensures.value shows written c.in-Some.plan reordered;
    }

pub returns-in_err-_verilog-clause-fault : goal.returns-in_err-_verilog-clause-fault
returns-in_err-_verilog-clause-fault g c =
    let p = err_from_is_err_and c.from_residual.result c.from_residual.ensures.1 in
    let t = texts_of c.args.files.now.table c.args.files.now.lef c.args.files.now.verilog c.args.files.now.def in
    let stil = c.args.files.now.stil in
    let text = c.split_at.result.0.now in
    let few = c.requires.small.stil in
    let shows = head_shows_in stil c.bytes-stil.result.now text c.head_len.result c.bytes-stil.ensures.value few c.head_len.ensures.value c.split_at.ensures.front in
    let u = texts_with c.bytes.result.now c.bytes-2.result.now c.bytes-3.result.now c.bytes-4.result.now (Some text) in
    let same : u ≡ with_head t text = rw (c.bytes.ensures.value, c.bytes-2.ensures.value, c.bytes-3.ensures.value, c.bytes-4.ensures.value) refl in
    rw (p.1, p.2) (files_refused t u stil text same shows c.in_err-_verilog.field-0.0 c.in_err-_verilog.ensures.fault)

pub returns-in_err-counted-clause-fault : goal.returns-in_err-counted-clause-fault
returns-in_err-counted-clause-fault g c =
    let p = err_from_is_err_and c.from_residual-in_err-counted.result c.from_residual-in_err-counted.ensures.1 in
    let t = texts_of c.args.files.now.table c.args.files.now.lef c.args.files.now.verilog c.args.files.now.def in
    let stil = c.args.files.now.stil in
    let bytes = c.bytes-stil.result.now in
    let text = c.split_at.result.0.now in
    let few = c.requires.small.stil in
    let shows = head_shows_in stil bytes text c.head_len.result c.bytes-stil.ensures.value few c.head_len.ensures.value c.split_at.ensures.front in
    let u = texts_with c.bytes.result.now c.bytes-2.result.now c.bytes-3.result.now c.bytes-4.result.now (Some text) in
    let same : u ≡ with_head t text = rw (c.bytes.ensures.value, c.bytes-2.ensures.value, c.bytes-3.ensures.value, c.bytes-4.ensures.value) refl in
    let made = c.in_ok-_verilog.field-0 in
    let reordered = planned_with t u text made c.in-Some.plan same c.in-Some.is c.in_ok-_verilog.ensures.reordered in
    let written : Made = record { verilog = made.verilog; def = made.def; figures = made.figures; note = None } in
    rw (p.1, p.2)
    (patterns_refused t stil bytes text c.bytes-stil.ensures.value shows written c.in-Some.plan reordered c.meaning_law.ensures.law c.figures_law.ensures.law u same c.in_ok-_verilog.ensures.no_fault
    c.in_err-counted.field-0.0 c.in_err-counted.ensures.fault)

pub returns : goal.returns
returns g c =
    let t = texts_of c.args.files.now.table c.args.files.now.lef c.args.files.now.verilog c.args.files.now.def in
    let stil = c.args.files.now.stil in
    let bytes = c.bytes-stil.result.now in
    let text = c.split_at.result.0.now in
    let few = c.requires.small.stil in
    let shows = head_shows_in stil bytes text c.head_len.result c.bytes-stil.ensures.value few c.head_len.ensures.value c.split_at.ensures.front in
    let u = texts_with c.bytes.result.now c.bytes-2.result.now c.bytes-3.result.now c.bytes-4.result.now (Some text) in
    let same : u ≡ with_head t text = rw (c.bytes.ensures.value, c.bytes-2.ensures.value, c.bytes-3.ensures.value, c.bytes-4.ensures.value) refl in
    let made = c.in_ok-_verilog.field-0 in
    let reordered = planned_with t u text made c.in-Some.plan same c.in-Some.is c.in_ok-_verilog.ensures.reordered in
    let written : Made = record { verilog = made.verilog; def = made.def; figures = made.figures; note = None } in
    record {
      said = is_said t stil bytes text c.bytes-stil.ensures.value shows written c.in-Some.plan reordered c.meaning_law.ensures.law c.figures_law.ensures.law u same c.in_ok-_verilog.ensures.no_fault
          c.in_ok-counted.counted c.in_ok-all_figure_lines.field-0 c.in_ok-counted.ensures.value c.in_ok-all_figure_lines.ensures.value;
      no_fault = none_made t stil bytes text c.bytes-stil.ensures.value shows written c.in-Some.plan reordered c.meaning_law.ensures.law c.figures_law.ensures.law u same c.in_ok-_verilog.ensures.no_fault c.in_ok-counted.ensures.sound;
      fault = tt;
    }
