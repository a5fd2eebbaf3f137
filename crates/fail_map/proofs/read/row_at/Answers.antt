use Rattle.std.proofs.Common.{◌≡◌, ℕ, List, drop}
use Rattle.fail_map.specs.Rows.{HasRow, EndsRow}
use Rattle.fail_map.proofs.LogRows.{behind_scan, behind_chain, blank_stops, has_behind, behind_first, behind_next, row_read, ends_stop, not_end, end_here, end_text}
use Rattle.fail_map.proofs.read.row_at.Goals.{else-at-bytes-via-then-at-bytes+else-bytes-at-ne10, else-at-bytes-via-else-at-bytes}
use Rattle.fail_map.proofs.read.row_at.Goals as goal

pub returns-in_err-scan : goal.returns-in_err-scan
returns-in_err-scan c =
    let bytes : List ℕ = c.args.bytes.now in
    let p = c.in_ok-pattern.ensures.value in
    record {
      value = rw c.from_residual-in_err-scan.ensures (λ (h : HasRow (drop c.args.at bytes)).
          c.in_err-scan.ensures.value
          (has_behind (drop c.in_ok-pattern.at bytes) (behind_scan h) h.says.first h.line.scan h.says.blanks.0 h.says.small.scan (blank_stops h.says.second h.says.blanks.1)
          (behind_first (drop c.args.at bytes) h c.in_ok-pattern.pattern (drop c.in_ok-pattern.at bytes) p.small p.stops p.is)));
    }

pub returns-in_err-chain : goal.returns-in_err-chain
returns-in_err-chain c =
    let bytes : List ℕ = c.args.bytes.now in
    let p = c.in_ok-pattern.ensures.value in
    let s = c.in_ok-scan.ensures.value in
    record {
      value = rw c.from_residual-in_err-chain.ensures (λ (h : HasRow (drop c.args.at bytes)).
          let first = behind_first (drop c.args.at bytes) h c.in_ok-pattern.pattern (drop c.in_ok-pattern.at bytes) p.small p.stops p.is in
          let second : drop c.in_ok-scan.at bytes ≡ behind_scan h
          = behind_next (drop c.in_ok-pattern.at bytes) (behind_scan h) h.says.first s.blank h.line.scan c.in_ok-scan.scan (drop c.in_ok-scan.at bytes) h.says.small.scan s.small (blank_stops h.says.second h.says.blanks.1) s.stops first s.is in
          c.in_err-chain.ensures.value (has_behind (drop c.in_ok-scan.at bytes) (behind_chain h) h.says.second h.line.chain h.says.blanks.1 h.says.small.chain (blank_stops h.says.third h.says.blanks.2) second));
    }

pub returns-in_err-index : goal.returns-in_err-index
returns-in_err-index c =
    let bytes : List ℕ = c.args.bytes.now in
    let p = c.in_ok-pattern.ensures.value in
    let s = c.in_ok-scan.ensures.value in
    let n = c.in_ok-chain.ensures.value in
    record {
      value = rw c.from_residual-in_err-index.ensures (λ (h : HasRow (drop c.args.at bytes)).
          let first = behind_first (drop c.args.at bytes) h c.in_ok-pattern.pattern (drop c.in_ok-pattern.at bytes) p.small p.stops p.is in
          let second : drop c.in_ok-scan.at bytes ≡ behind_scan h
          = behind_next (drop c.in_ok-pattern.at bytes) (behind_scan h) h.says.first s.blank h.line.scan c.in_ok-scan.scan (drop c.in_ok-scan.at bytes) h.says.small.scan s.small (blank_stops h.says.second h.says.blanks.1) s.stops first s.is in
          let third : drop c.in_ok-chain.at bytes ≡ behind_chain h
          = behind_next (drop c.in_ok-scan.at bytes) (behind_chain h) h.says.second n.blank h.line.chain c.in_ok-chain.chain (drop c.in_ok-chain.at bytes) h.says.small.chain n.small (blank_stops h.says.third h.says.blanks.2) n.stops second n.is in
          c.in_err-index.ensures.value (has_behind (drop c.in_ok-chain.at bytes) h.tail h.says.third h.line.index h.says.blanks.2 h.says.small.index (ends_stop h.tail h.ends) third));
    }

pub returns-then-bytes-at-ne10 : goal.returns-then-bytes-at-ne10
returns-then-bytes-at-ne10 c =
    let bytes : List ℕ = c.args.bytes.now in
    let p = c.in_ok-pattern.ensures.value in
    let s = c.in_ok-scan.ensures.value in
    let n = c.in_ok-chain.ensures.value in
    let i = c.in_ok-index.ensures.value in
    record {
      value = λ (h : HasRow (drop c.args.at bytes)).
          let first = behind_first (drop c.args.at bytes) h c.in_ok-pattern.pattern (drop c.in_ok-pattern.at bytes) p.small p.stops p.is in
          let second : drop c.in_ok-scan.at bytes ≡ behind_scan h
          = behind_next (drop c.in_ok-pattern.at bytes) (behind_scan h) h.says.first s.blank h.line.scan c.in_ok-scan.scan (drop c.in_ok-scan.at bytes) h.says.small.scan s.small (blank_stops h.says.second h.says.blanks.1) s.stops first s.is in
          let third : drop c.in_ok-chain.at bytes ≡ behind_chain h
          = behind_next (drop c.in_ok-scan.at bytes) (behind_chain h) h.says.second n.blank h.line.chain c.in_ok-chain.chain (drop c.in_ok-chain.at bytes) h.says.small.chain n.small (blank_stops h.says.third h.says.blanks.2) n.stops second n.is in
          let fourth : drop c.in_ok-index.at bytes ≡ h.tail
          = behind_next (drop c.in_ok-chain.at bytes) h.tail h.says.third i.blank h.line.index c.in_ok-index.index (drop c.in_ok-index.at bytes) h.says.small.index i.small (ends_stop h.tail h.ends) i.stops third i.is in
          c.if-bytes-at-ne10.true (not_end bytes h.tail c.in_ok-index.at c.if-at-bytes.true fourth h.ends);
    }

pub returns : goal.returns
returns c =
    let bytes : List ℕ = c.args.bytes.now in
    let end : ℕ = c.in_ok-index.at in
    let ends : EndsRow (drop end bytes) = elim c.else-at-bytes.branch [
      | else-at-bytes-via-then-at-bytes+else-bytes-at-ne10 w ↦ end_here bytes end w.if-at-bytes.true w.if-bytes-at-ne10.false
      | else-at-bytes-via-else-at-bytes w ↦ end_text bytes end w.if-at-bytes.false
    ] in
    record {
      value = row_read bytes c.args.at c.in_ok-pattern.at c.in_ok-scan.at c.in_ok-chain.at end
          (record { pattern = c.in_ok-pattern.pattern; scan = c.in_ok-scan.scan; chain = c.in_ok-chain.chain; index = c.in_ok-index.index })
          c.in_ok-pattern.ensures.value c.in_ok-scan.ensures.value c.in_ok-chain.ensures.value c.in_ok-index.ensures.value ends;
    }
