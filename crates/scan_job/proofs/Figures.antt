-- Lines of figures appended one by one to a text.
use Rattle.std.proofs.Common.{◌≡◌, ℕ, List, [], ◌++◌, codes, ap, ◌∙◌, append_assoc}
use Rattle.reorder_command.specs.declared.figures.Figures.{Figures}
use Rattle.retargeted_patterns.specs.declared.figures.PatternFigures.{PatternFigures}
use Rattle.scan_job.specs.Commands.Reorder.{figure_line, measured_text, cut_text, figures_text}
use Rattle.scan_job.specs.Commands.Patterns.{all_figures_text}

-- a line was appended to a text that is known
behind : (old was line new : List ℕ) → old ≡ was → new ≡ old ++ line → new ≡ was ++ line
behind old was line new is appended = appended ∙ ap (λ (l : List ℕ). l ++ line) is

-- two and three parts that were appended one by one
pub two_behind : (old one two a b : List ℕ) → one ≡ old ++ a → two ≡ one ++ b → two ≡ old ++ (a ++ b)
two_behind old one two a b first second = second ∙ ap (λ (l : List ℕ). l ++ b) first ∙ append_assoc old a b

pub three_behind : (old one two three a b c : List ℕ) → one ≡ old ++ a → two ≡ one ++ b → three ≡ two ++ c → three ≡ old ++ ((a ++ b) ++ c)
three_behind old one two three a b c first second third = two_behind old two three (a ++ b) c (two_behind old one two a b first second) third

pub design_lines : (f : Figures) (none chains units measured pins nets cut : List ℕ) → none ≡ []
    → chains ≡ none ++ figure_line (codes "chains") f.chains → units ≡ chains ++ figure_line (codes "units") f.units → measured ≡ units ++ measured_text f.measured
    → pins ≡ measured ++ figure_line (codes "pins_moved") f.pins_moved → nets ≡ pins ++ figure_line (codes "nets_cut") f.nets_cut → cut ≡ nets ++ cut_text f.measured → cut ≡ figures_text f
design_lines f none chains units measured pins nets cut none_is chains_are units_are measured_are pins_are nets_are cut_is =
    behind nets _ (cut_text f.measured) cut
    (behind pins _ (figure_line (codes "nets_cut") f.nets_cut) nets
    (behind measured _ (figure_line (codes "pins_moved") f.pins_moved) pins
    (behind units _ (measured_text f.measured) measured
    (behind chains _ (figure_line (codes "units") f.units) units
    (behind none [] (figure_line (codes "chains") f.chains) chains none_is chains_are)
    units_are) measured_are) pins_are) nets_are) cut_is

pub all_lines : (f : Figures) (p : PatternFigures) (design calls read written : List ℕ) → design ≡ figures_text f → calls ≡ design ++ figure_line (codes "calls") p.calls
    → read ≡ calls ++ figure_line (codes "shifts_read") p.shifts_read → written ≡ read ++ figure_line (codes "shifts_written") p.shifts_written → written ≡ all_figures_text f p
all_lines f p design calls read written design_is calls_are read_is written_is =
    let calls_line = figure_line (codes "calls") p.calls in
    let read_line = figure_line (codes "shifts_read") p.shifts_read in
    let written_line = figure_line (codes "shifts_written") p.shifts_written in
    behind read ((figures_text f ++ calls_line) ++ read_line) written_line written (behind calls (figures_text f ++ calls_line) read_line read (behind design (figures_text f) calls_line calls design_is calls_are) read_is) written_is
    ∙ ap (λ (l : List ℕ). l ++ written_line) (append_assoc (figures_text f) calls_line read_line)
    ∙ append_assoc (figures_text f) (calls_line ++ read_line) written_line
