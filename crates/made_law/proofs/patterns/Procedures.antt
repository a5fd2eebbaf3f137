-- What the procedures of the made STIL are, by computing.
use Rattle.std.proofs.Common.{◌≡◌, ℕ, Bool, true, false, List, [], ◌∷◌, refl, codes}
use Rattle.std.specs.Fmt.{digits}
use Rattle.base_types.specs.declared.span.Span.{Span}
use Rattle.stil_tokens.specs.StilStatements.{statements_within}
use Rattle.stil_syntax.specs.Names.{name_at}
use Rattle.stil_syntax.specs.Shapes.{label_at, behind_within}
use Rattle.stil_blocks.specs.Statements.{is_worded, has_word, behind_word, opens_named, opens_maybe_named}
use Rattle.stil_blocks.specs.Callees.{begins_shift, callee_at, block_callees}
use Rattle.stil_head.specs.Faults.{is_unread, callee_faults, block_faults, is_read, is_bad, statement_faults}
use Rattle.stil_head.specs.Unsupported.{calls_scan, is_barred, is_odd_shift, body_places, callee_places}
use Rattle.made_law.proofs.patterns.Tokens.{tokens_by, ends}
use Rattle.made_law.proofs.patterns.HeadWords.{version_words, signal_words, procedure_words}

pub procedures_end : ends 0 procedure_words ≡ true
unfolding digits
procedures_end = refl

pub signals_end : ends 0 signal_words ≡ true
unfolding digits
signals_end = refl

pub procedures_are : (at : ℕ → Span) → block_callees (codes "Procedures") (tokens_by at procedure_words)
    ≡ record { place = (at 2).start; callee = record { name = codes "load_unload"; scan = true } } ∷ record { place = (at 89).start; callee = record { name = codes "capture"; scan = false } } ∷ []
unfolding digits block_callees callee_at begins_shift has_word behind_word behind_within label_at name_at statements_within
procedures_are at = refl

pub procedures_faultless : (text : List ℕ) (at : ℕ → Span) → statement_faults text (tokens_by at procedure_words) ≡ []
unfolding digits statement_faults is_bad is_unread is_worded is_read block_faults callee_faults opens_maybe_named opens_named callee_at begins_shift has_word behind_word behind_within label_at name_at statements_within
procedures_faultless text at = refl

pub procedures_supported : (at : ℕ → Span) (p q : List ℕ → Bool) → callee_places p q (tokens_by at procedure_words) ≡ []
unfolding digits callee_places body_places is_barred is_odd_shift calls_scan begins_shift has_word behind_word behind_within label_at name_at statements_within
procedures_supported at p q = refl

pub signals_faultless : (text : List ℕ) (at : ℕ → Span) → statement_faults text (tokens_by at signal_words) ≡ []
unfolding digits statement_faults is_bad is_unread is_worded is_read block_faults opens_maybe_named opens_named has_word behind_word behind_within label_at name_at
signals_faultless text at = refl

pub version_faultless : (text : List ℕ) (at : ℕ → Span) → statement_faults text (tokens_by at version_words) ≡ []
unfolding digits statement_faults is_bad is_unread is_worded is_read block_faults opens_maybe_named opens_named has_word behind_word behind_within label_at name_at
version_faultless text at = refl

pub signals_supported : (at : ℕ → Span) (p q : List ℕ → Bool) → callee_places p q (tokens_by at signal_words) ≡ []
unfolding digits callee_places has_word behind_within label_at name_at
signals_supported at p q = refl

pub version_supported : (at : ℕ → Span) (p q : List ℕ → Bool) → callee_places p q (tokens_by at version_words) ≡ []
unfolding digits callee_places has_word behind_within label_at name_at
version_supported at p q = refl
