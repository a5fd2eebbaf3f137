-- The chains that the statements of a head declare have at least one bit each.
use Rattle.std.proofs.Common.{◌≡◌, ℕ, ◌-◌, ◌≤◌, ◌^◌, ◌&&◌, Bool, true, false, cond, List, [], ◌∷◌, map, flat_map, min, codes, Option, Some, None, refl, arith}
use Rattle.std.specs.Prelude.{All, IfSome, nat_le}
use Rattle.std.specs.List.{list_all}
use Rattle.std.specs.Str.{bytes_eq}
use Rattle.std.proofs.lemmas.Bool.{leb-true}
use Rattle.std.proofs.lemmas.List.Elements.{All-nil, All-cons, All-append}
use Rattle.base_types.specs.Names.{plain_name}
use Rattle.base_types.specs.declared.span.Span.{Span}
use Rattle.token_forms.specs.Tokens.{Token}
use Rattle.token_forms.specs.Parsing.{◌>>=◌}
use Rattle.token_forms.specs.Forms.{put_all}
use Rattle.stil_blocks.specs.declared.clause.Clause.{Clause}
use Rattle.stil_blocks.specs.declared.clause.Clause.TheVariants.{Length, In, Out, Inversion, Cells, OutLength, Passed, NoForm}
use Rattle.stil_blocks.specs.declared.cells.CellList.{CellList}
use Rattle.stil_blocks.specs.declared.chain.ChainParts.{ChainParts}
use Rattle.stil_blocks.specs.declared.chain.ReadChain.{ReadChain}
use Rattle.stil_syntax.specs.Digits.{is_digit, count_from}
use Rattle.stil_syntax.specs.Names.{name_at}
use Rattle.stil_syntax.specs.Shapes.{behind_labels}
use Rattle.stil_blocks.specs.Statements.{statements_of, start_of, is_whole, has_word, behind_word, is_end, opens, span_of, statements_in}
use Rattle.stil_blocks.specs.Chains.{length_of, length_at, port_at, inversion_at, cells_at, cells_span, clause_by, further_clause, word_clause, unlabelled_clause, clause_of, no_parts, once, put_clause, whole_chain, parts_of, block_chain, named_chain, chain_at, listed, chain_in, structure_chains, chains_of}

-- ScanLength is a number from 1

abbrev pub FromOne : ReadChain → Type 0
FromOne c = 1 ≤ c.decl.length

abbrev IsLong : Clause → Type 0
IsLong (Length n at) = 1 ≤ n
IsLong (In port) = Unit {0}
IsLong (Out port) = Unit {0}
IsLong (Inversion bit at) = Unit {0}
IsLong (Cells list at) = Unit {0}
IsLong OutLength = Unit {0}
IsLong Passed = Unit {0}
IsLong NoForm = Unit {0}

abbrev HasLength : ChainParts → Type 0
HasLength p = IfSome p.length (λ l. 1 ≤ l.0)

-- one value of two by a test
by_test : {A : Type 0} (P : A → Type 0) (b : Bool) (x y : A) → P x → P y → P (cond b x y)
by_test P true x y p q = p
by_test P false x y p q = q

number_by : (a b : Bool) (n : ℕ) → (b ≡ true → 1 ≤ n) → IfSome (cond (a && b) (Some n) None) (λ n. 1 ≤ n)
number_by true true n h = h refl
number_by true false n h = tt
number_by false b n h = tt

number_long : (text : List ℕ) → IfSome (length_of text) (λ n. 1 ≤ n)
number_long text =
    number_by (list_all is_digit text) (nat_le 1 (count_from 0 text)) (min (count_from 0 text) (2 ^ 32 - 1))
    (λ e. let le : 1 ≤ count_from 0 text = leb-true 1 (count_from 0 text) e in omega arith)

placed_long : (o : Option ℕ) (at : Span) → IfSome o (λ n. 1 ≤ n) → IfSome {T = ℕ × Span} (o >>= λ n. Some (n, at)) (λ v. 1 ≤ v.0)
placed_long None at h = tt
placed_long (Some n) at h = h

length_long : (ts : List Token) → IfSome (length_at ts) (λ v. 1 ≤ v.0)
length_long [] = tt
length_long (t ∷ ts) = by_test (λ (o : Option (ℕ × Span)). IfSome o (λ v. 1 ≤ v.0)) (is_end ts) _ None (placed_long (length_of t.text) (span_of t) (number_long t.text)) tt

made_length : (o : Option (ℕ × Span)) → IfSome o (λ v. 1 ≤ v.0) → IsLong (clause_by (λ (n : ℕ × Span). Length n.0 n.1) o)
made_length None h = tt
made_length (Some v) h = h

made_other : {A : Type 0} (made : A → Clause) (o : Option A) → ((a : A) → IsLong (made a)) → IsLong (clause_by made o)
made_other made None h = tt
made_other made (Some a) h = h a

further_long : (t : Token) (ts : List Token) → IsLong (further_clause t ts)
further_long t ts =
    by_test IsLong (bytes_eq t.text (codes "ScanInversion")) _ _ (made_other (λ (b : Bool × Span). Inversion b.0 b.1) (inversion_at ts) (λ b. tt))
    (by_test IsLong (bytes_eq t.text (codes "ScanCells")) _ _ (made_other (λ (c : CellList × ℕ). Cells c.0 (cells_span t c.1)) (cells_at ts) (λ c. tt))
    (by_test IsLong (bytes_eq t.text (codes "ScanOutLength")) OutLength Passed tt tt))

word_long : (t : Token) (ts : List Token) → IsLong (word_clause t ts)
word_long t ts =
    by_test IsLong (bytes_eq t.text (codes "ScanLength")) _ _ (made_length (length_at ts) (length_long ts))
    (by_test IsLong (bytes_eq t.text (codes "ScanIn")) _ _ (made_other In (port_at ts) (λ p. tt))
    (by_test IsLong (bytes_eq t.text (codes "ScanOut")) _ _ (made_other Out (port_at ts) (λ p. tt)) (further_long t ts)))

unlabelled_long : (ts : List Token) → IsLong (unlabelled_clause ts)
unlabelled_long [] = tt
unlabelled_long (t ∷ ts) = word_long t ts

clause_long : (s : List Token) → IsLong (clause_of s)
unfolding clause_of
clause_long s = by_test IsLong (is_whole s) _ NoForm (unlabelled_long (behind_labels s)) tt

-- what is put to a chain's parts

bound : {A : Type 0} (P : A → Type 0) (o : Option A) (made : A → ChainParts) → IfSome o P → ((a : A) → P a → HasLength (made a)) → IfSome (o >>= λ a. Some (made a)) HasLength
bound P None made h each = tt
bound P (Some a) made h each = each a h

once_long : (o : Option (ℕ × Span)) (v : ℕ × Span) → 1 ≤ v.0 → IfSome (once o v) (λ l. IfSome l (λ w. 1 ≤ w.0))
once_long None v h = h
once_long (Some w) v h = tt

any_once : {A : Type 0} (o : Option A) → IfSome o (λ a. Unit {0})
any_once None = tt
any_once (Some a) = tt

put_long : (p : ChainParts) (c : Clause) → HasLength p → IsLong c → IfSome (put_clause p c) HasLength
put_long p (Length n at) h l = bound (λ (o : Option (ℕ × Span)). IfSome o (λ w. 1 ≤ w.0)) (once p.length (n, at)) _ (once_long p.length (n, at) l) (λ o w. w)
put_long p (In port) h l = bound (λ o. Unit {0}) (once p.scan_in port) _ (any_once (once p.scan_in port)) (λ o w. h)
put_long p (Out port) h l = bound (λ o. Unit {0}) (once p.scan_out port) _ (any_once (once p.scan_out port)) (λ o w. h)
put_long p (Inversion bit at) h l = bound (λ o. Unit {0}) (once p.inversion (bit, at)) _ (any_once (once p.inversion (bit, at))) (λ o w. h)
put_long p (Cells list at) h l = bound (λ o. Unit {0}) (once p.cells (list, at)) _ (any_once (once p.cells (list, at))) (λ o w. h)
put_long p OutLength h l = h
put_long p Passed h l = h
put_long p NoForm h l = tt

then_long : (o : Option ChainParts) (f : ChainParts → Option ChainParts) → IfSome o HasLength → ((p : ChainParts) → HasLength p → IfSome (f p) HasLength) → IfSome (o >>= f) HasLength
then_long None f h each = tt
then_long (Some p) f h each = each p h

all_put : (p : ChainParts) (ss : List (List Token)) → HasLength p → IfSome (put_all put_clause p (map clause_of ss)) HasLength
unfolding put_all
all_put p [] h = h
all_put p (s ∷ ss) h = then_long (put_clause p (clause_of s)) (λ q. put_all put_clause q (map clause_of ss)) (put_long p (clause_of s) h (clause_long s)) (λ q g. all_put q ss g)

parts_long : (ss : List (List Token)) → IfSome (parts_of ss) HasLength
unfolding parts_of
parts_long ss = all_put no_parts ss tt

-- so each chain is long

then_chain : {A : Type 0} (P : A → Type 0) (o : Option A) (f : A → Option ReadChain) → IfSome o P → ((a : A) → P a → IfSome (f a) FromOne) → IfSome (o >>= f) FromOne
then_chain P None f h each = tt
then_chain P (Some a) f h each = each a h

whole_long : (name : List ℕ) (place line : ℕ) (p : ChainParts) → HasLength p → IfSome (whole_chain name place line p) FromOne
whole_long name place line p h =
    then_chain (λ l. 1 ≤ l.0) p.length _ h
    (λ l le. then_chain (λ i. Unit {0}) p.scan_in _ (any_once p.scan_in) (λ i u. then_chain (λ o. Unit {0}) p.scan_out _ (any_once p.scan_out) (λ o w. le)))

block_long : (text name : List ℕ) (s : List Token) → IfSome (block_chain text name s) FromOne
block_long text name s = then_chain HasLength (parts_of (statements_in s)) _ (parts_long (statements_in s)) (λ p h. whole_long name (start_of s) _ p h)

named_long : (text : List ℕ) (s : List Token) (o : Option (List ℕ × List Token)) → IfSome (named_chain text s o) FromOne
named_long text s None = tt
named_long text s (Some n) = by_test (λ (o : Option ReadChain). IfSome o FromOne) (opens n.1) _ None (block_long text (plain_name n.0) s) tt

chain_long : (text : List ℕ) (s : List Token) → IfSome (chain_at text s) FromOne
unfolding chain_at
chain_long text s = by_test (λ (o : Option ReadChain). IfSome o FromOne) (is_whole s) _ None (named_long text s (name_at (behind_word s))) tt

all_listed : (o : Option ReadChain) → IfSome o FromOne → All FromOne (listed o)
all_listed None h = All-nil FromOne
all_listed (Some c) h = All-cons FromOne c [] h (All-nil FromOne)

all_flat : {X : Type 0} (f : X → List ReadChain) (xs : List X) → ((x : X) → All FromOne (f x)) → All FromOne (flat_map f xs)
all_flat f [] each = All-nil FromOne
all_flat f (x ∷ xs) each = All-append FromOne (f x) (flat_map f xs) (each x) (all_flat f xs each)

item_long : (text : List ℕ) (s : List Token) → All FromOne (chain_in text s)
unfolding chain_in
item_long text s = by_test (All FromOne) (has_word (codes "ScanChain") s) _ [] (all_listed (chain_at text s) (chain_long text s)) (All-nil FromOne)

structure_long : (text : List ℕ) (s : List Token) → All FromOne (structure_chains text s)
unfolding structure_chains
structure_long text s = by_test (All FromOne) (has_word (codes "ScanStructures") s) _ [] (all_flat (chain_in text) (statements_in s) (item_long text)) (All-nil FromOne)

pub chains_long : (text : List ℕ) → All FromOne (chains_of text)
chains_long text = all_flat (structure_chains text) (statements_of text) (structure_long text)
