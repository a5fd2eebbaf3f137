-- The tokens of a Verilog text in which the tokens between two marks are replaced.
use Rattle.std.proofs.Common.{◌≡◌, ℕ, ◌-◌, List, [], ◌∷◌, ◌++◌, length, take, drop, sym, ap, ◌∙◌, arith}
use Rattle.base_types.specs.declared.span.Span.{Span}
use Rattle.token_forms.specs.Pieces.{tokens_from}
use Rattle.verilog_syntax.specs.VerilogTokens.{piece_at, texts}
use Rattle.token_forms.specs.Runs.{texts_of, IsRun}
use Rattle.verilog_syntax.specs.Seams.{IsMarkAt, Starts, TextsLaw, ReplacedLaw}
use Rattle.verilog_syntax.proofs.VerilogPieces.{verilog_cut}
use Rattle.verilog_syntax.proofs.VerilogSeams.{Hard, verilog_seams}
use Rattle.verilog_syntax.proofs.VerilogMarks.{Stop, marks, marked, mark_stop, blank_stop}
use Rattle.token_forms.proofs.Reaches.{Placed, placed, stops, texts_here}

pub texts_law : TextsLaw
texts_law text = texts_here piece_at verilog_cut (length text) text 0 (omega arith)

pub starts_more : (n z : List ℕ) → Starts n → Starts (n ++ z)
starts_more n z s = record { first = s.first; behind = s.behind ++ z; is = ap (λ (x : List ℕ). x ++ z) s.is; black = s.black; no_star = s.no_star }

-- the place between two marks
pub between : (text : List ℕ) (at : ℕ) (place : Span) (front : List Span) (mark : Span) (run : List Span) (next : Span) (behind : List Span)
    → IsMarkAt text mark → IsRun place run next → tokens_from piece_at at 0 (drop at text) ≡ front ++ mark ∷ (run ++ next ∷ behind)
    → Placed piece_at Starts text at place (texts_of text (front ++ mark ∷ [])) (next ∷ behind)
between text at place front mark run next behind is run_is cut = placed piece_at Starts Hard verilog_seams text at place front mark run next behind (λ s e. marked text mark s is) run_is cut

-- what stands behind it ends a new text
pub stops_at : (text : List ℕ) (at : ℕ) (next : Span) (behind : List Span) → IsMarkAt text next → tokens_from piece_at at 0 (drop at text) ≡ next ∷ behind → Stop (drop at text)
stops_at text at next behind is e = stops piece_at verilog_cut Stop blank_stop text at is.mark next behind (mark_stop is.mark (marks is.mark is.is)) is.only e

pub replaced_law : ReplacedLaw
replaced_law text new place front mark run next behind cut opens closes run_is ready =
    let p = between text 0 place front mark run next behind opens run_is cut in
    let rest = drop place.end text in
    let within = p.within in
    let stop = stops_at text place.end next behind closes p.rest in
    let later : texts rest ≡ texts_of text (next ∷ behind) = texts_here piece_at verilog_cut (length text) text place.end (omega arith) ∙ ap (texts_of text) p.rest in
    let k : place.start - 0 ≡ place.start = omega arith in
    ap (λ (n : ℕ). texts (take n text ++ (new ++ rest))) (sym k)
    ∙ p.front.goes (new ++ rest) (starts_more new rest ready.starts)
    ∙ ap (λ (ts : List (List ℕ)). texts_of text (front ++ mark ∷ []) ++ ts) (ready.goes rest stop ∙ ap (λ (ts : List (List ℕ)). texts new ++ ts) later)
