-- The written patterns mean on the written netlist what the read ones mean on the read one.
use Rattle.std.proofs.Common.{◌≡◌, inl, inr, ℕ, ◌≤◌, List, [], ◌++◌, length, map, take, drop, Option, Some, None, refl, sym, ap, ◌∙◌, subst, arith}
use Rattle.std.specs.Option.{unwrap_or}
use Rattle.netlist_core.specs.declared.netlist.Netlist.{Netlist}
use Rattle.cell_table.specs.Cells.{Cells}
use Rattle.def_reader.specs.declared.design.Design.{Design}
use Rattle.chain_trace.specs.declared.path.Path.{Path}
use Rattle.stil_types.specs.declared.head.ScanChainDecl.{ScanChainDecl}
use Rattle.stil_types.specs.declared.head.StilHead.{StilHead}
use Rattle.stil_types.specs.declared.statement.PatternStatement.{PatternStatement}
use Rattle.stil_parts.specs.Coming.{Coming}
use Rattle.stil_calls.specs.declared.judging.Judging.TheVariants.{Lengths}
use Rattle.stil_calls.specs.Parts.{judge_by}
use Rattle.stil_calls.specs.Scans.{bits_of, most_characters}
use Rattle.stil_head.specs.Ends.{head_text}
use Rattle.stil_head.specs.Heads.{IsHead}
use Rattle.stil_reader.specs.Sayings.{Saying, told}
use Rattle.stil_reader.specs.Patterns.{behind_head, names_in, statements_in}
use Rattle.stil_tester.specs.declared.chains.Chains.{Chains}
use Rattle.stil_tester.specs.Shifting.{bit_counts}
use Rattle.stil_tester.specs.Meaning.{PatternText, RunAlike, HaveSameMeaning}
use Rattle.stil_written.specs.Readings.{reading}
use Rattle.stil_written.specs.Unbounded.{says_free}
use Rattle.stil_written.specs.Written.{Form, written_says, with_chains, AreTogether}
use Rattle.stil_written.specs.Laws.{HasMeaning, IsFront}
use Rattle.stil_written.proofs.Fronts.{head_front_law}
use Rattle.stil_written.proofs.Turns.{comes-ended}
use Rattle.pattern_laws.specs.Laws.{SamePorts}
use Rattle.written_meaning.specs.Patterns.Laws.{AreDeclared, retargeted_form}
use Rattle.written_meaning.proofs.patterns.Meanings.{meaning_law, front_law}
use Rattle.retarget.specs.Moved.{moved_call}
use Rattle.retarget.specs.Places.{longest}
use Rattle.retarget.specs.Retargeting.{HaveSameCells}
use Rattle.retargeted_patterns.specs.Texts.{TextsLaw}
use Rattle.path_chains.specs.Numbered.{bits_along}
use Rattle.path_chains.specs.Ranked.{rank_of, bits_of_all, chains_along}
use Rattle.chain_maps.proofs.Along.{same_along}
use Rattle.path_chains.proofs.RankedChains.{ranked_are}
use Rattle.traced_paths.specs.Bits.{all_bits}
use Rattle.head_alike.specs.Erased.{head_tokens}
use Rattle.head_text.specs.Written.{NewChain, written_head, declared}
use Rattle.head_text.specs.Laws.{read_names, FitChains, MayFollow, DenotesAnew}
use Rattle.head_text.proofs.Lays.{take_front, drop_front}
use Rattle.head_text.proofs.Texts.{text_law}
use Rattle.head_text.proofs.Written.{head_law}
use Rattle.head_writer.specs.Fits.{chains_for, FitLaw}
use Rattle.head_writer.specs.Anew.{KeepsNames, AnewLaw}
use Rattle.head_writer.proofs.fits.PathNames.{count_all}
use Rattle.reorder_command.specs.Reordered.{AreSamePaths}
use Rattle.reorder_command.specs.PatternPlans.{AreMovable}
use Rattle.written_meaning.specs.Meaning.{patterns_in, Means, KeepsMeaning}
use Rattle.same_files.proofs.OwnHeads.{IsOwnHead}
use Rattle.written_meaning.proofs.SameCells.{cells_are}
use Rattle.written_meaning.proofs.SamePaths.{same_steps, by_names, paths_after}
use Rattle.written_meaning.proofs.NewHeads.{declared_ports, again_ports, said_bits, new_bits_are, most_within}

module _ (texts : TextsLaw) (fit : FitLaw) (anew : AnewLaw) (text stil : List ℕ) (head : StilHead) (n w : Netlist) (cells : Cells) (d : Design) (paths new after : List Path)
    (own : IsOwnHead stil text head) (planned : AreMovable n cells (Some d) paths new text head)
    (same_cells : HaveSameCells (chains_along n cells paths) (chains_along n cells new)) (counts : bit_counts (chains_along n cells paths) ≡ bits_of head.chains)
    (same : AreSamePaths n w cells new after) (keeps : KeepsNames n w) (sound : (patterns_in head stil).fault ≡ None) where
  abbrev old_chains : Chains
  old_chains = chains_along n cells paths

  abbrev new_chains : Chains
  new_chains = chains_along n cells new

  abbrev declarations : List NewChain
  declarations = chains_for text head n cells paths new

  abbrev names : List (List ℕ)
  names = read_names text head.chains

  abbrev pub front : List ℕ
  front = written_head declarations head text

  abbrev says : List Saying
  says = (patterns_in head stil).says

  abbrev form : List ScanChainDecl → Form
  form ds = retargeted_form ds old_chains new_chains (λ (t : List ℕ). front)

  abbrev pub rest : List ℕ
  rest = written_says (form head.chains) says

  abbrev out : List ℕ
  out = front ++ rest

  fitted : FitChains names head.chains declarations
  fitted = fit text text head n cells (Some d) paths new planned.fits own.own planned.anew planned.few

  few : longest new_chains ≤ most_characters
  few =
      let most : longest new_chains ≤ new_chains.cells = most_within (rank_of n (bits_of_all (map (bits_along n cells) new))) (map (bits_along n cells) new) in
      let count : new_chains.cells ≡ old_chains.cells = same_cells.cells in
      let all : old_chains.cells ≡ all_bits n cells paths = ap (λ (c : Chains). c.cells) (ranked_are n cells paths) ∙ count_all n cells paths planned.fits.entries in
      let low = planned.few in
      omega (arith, most, count, all, low)

  declared_for : (ds : List ScanChainDecl) → SamePorts head.chains ds → bits_of ds ≡ bit_counts new_chains → AreDeclared head ds old_chains new_chains
  declared_for ds ports bits = record { cells = same_cells; ports = ports; read = sym counts; written = bits; few = few }

  form_same : (ds : List ScanChainDecl) → SamePorts head.chains ds → rest ≡ written_says (form ds) says
  form_same ds ports = λ i. written_says (record { head = λ (t : List ℕ). front; statement = λ (s : PatternStatement). texts head.chains ds (moved_call old_chains new_chains) s ports i }) says

  -- what stands behind the head begins as it did
  abbrev behind : List ℕ
  behind = drop head.end stil

  front_kept : IsFront behind → IsFront rest
  front_kept was =
      let ds = declared head.chains declarations in
      let ports = declared_ports names head.chains declarations fitted in
      let bits = new_bits_are names text head n cells paths new fitted in
      subst IsFront (sym (form_same ds ports))
      (front_law stil head ds old_chains new_chains (λ (t : List ℕ). front) (behind_head head stil) behind own.denotes (declared_for ds ports bits) refl refl sound was)

  nothing_behind : behind ≡ [] → rest ≡ []
  nothing_behind none =
      ap (λ (bytes : List ℕ). written_says (form head.chains) (says_free Lengths head (behind_head head stil) bytes).says) none
      ∙ ap (λ (c : Coming). written_says (form head.chains) (told head c).says) (comes-ended (judge_by Lengths head) (behind_head head stil))

  follows_by : IsFront behind → MayFollow behind rest
  follows_by (inl none) = inl (nothing_behind none)
  follows_by (inr here) = elim (front_kept (inr here)) [ inl none ↦ inl none | inr there ↦ inr (here, there) ]

  made : DenotesAnew head declarations front rest
  made =
      let fits = subst (λ (l : List ℕ). FitChains (read_names l head.chains) head.chains declarations) (sym own.text_is) fitted in
      subst (λ (l : List ℕ). DenotesAnew head declarations (written_head declarations head l) rest) own.text_is
      (head_law stil head declarations rest own.denotes fits (follows_by (head_front_law stil head.end own.denotes.ends)))

  abbrev again : StilHead
  again = made.again

  ports : SamePorts head.chains again.chains
  ports = again_ports names head.chains declarations again.chains fitted made.chains

  bits : bits_of again.chains ≡ bit_counts new_chains
  bits = said_bits (declared head.chains declarations) again.chains made.chains ∙ new_bits_are names text head n cells paths new fitted

  same_head : with_chains head again.chains again.marks again.end ≡ again
  same_head = λ i. record {
    chains = again.chains;
    procedures = sym made.procedures i;
    macros = sym made.macros i;
    keywords = sym made.keywords i;
    marks = again.marks;
    end = again.end;
  }

  behind_again : drop again.end out ≡ rest
  behind_again = ap (λ (k : ℕ). drop k out) made.end ∙ drop_front front rest

  together : AreTogether (behind_head head stil) (behind_head again out)
  together = record { opened = refl; place = tt; comment = refl }

  abbrev IsMeant : StilHead → List ℕ → Type 0
  IsMeant h bytes = HasMeaning old_chains new_chains says (says_free Lengths h (behind_head again out) bytes)

  meant : HasMeaning old_chains new_chains says (patterns_in again out)
  meant =
      let law = meaning_law stil head again.chains again.marks again.end old_chains new_chains (λ (t : List ℕ). front) (behind_head head stil) (behind_head again out) behind own.denotes
      (declared_for again.chains ports bits) together sound in
      let of_rest = subst (IsMeant (with_chains head again.chains again.marks again.end)) (sym (form_same again.chains ports)) law in
      subst (IsMeant again) (sym behind_again) (subst (λ (h : StilHead). IsMeant h rest) same_head of_rest)

  -- both texts, each by its head
  front_is : head_text out ≡ front
  front_is = ap (λ (o : Option ℕ). take (unwrap_or o (length out)) out) made.is.ends ∙ ap (λ (k : ℕ). take k out) made.end ∙ take_front front rest

  tokens : head_tokens (head_text stil) ≡ head_tokens (head_text out)
  tokens =
      let is = subst (λ (l : List ℕ). IsHead l head) own.text_is own.denotes.says in
      ap head_tokens own.text_is ∙ sym (text_law text head declarations is fitted).tokens ∙ ap head_tokens (sym front_is)

  along : chains_along w cells after ≡ new_chains
  along = same_along n w cells keeps.instances new after (same_steps n w cells new after same)

  abbrev text_on : Netlist → List Path → StilHead → List ℕ → PatternText
  text_on m ps h bytes = record {
    head = head_tokens (head_text bytes);
    names = names_in (patterns_in h bytes).says;
    played = record { chains = chains_along m cells ps; statements = statements_in (patterns_in h bytes).says };
  }

  reads : Means n cells paths stil (text_on n paths head stil)
  reads = record { head = head; head_is = own.denotes; paths_are = planned.fits.traced; declared = planned.fits.right; sound = sound; is = refl }

  reads_again : Means w cells after out (text_on w after again out)
  reads_again = record {
    head = again;
    head_is = made.is;
    paths_are = paths_after n w cells head.chains again.chains paths new after ports planned.fits.traced planned.anew.rearranged.aligned planned.anew.rearranged.once same;
    declared = anew text text head again n w cells (Some d) paths new after planned.fits own.own planned.anew keeps (by_names n w cells new after same) made.chains;
    sound = meant.same.sound;
    is = refl;
  }

  same_meaning : HaveSameMeaning reading (text_on n paths head stil) (text_on w after again out)
  same_meaning = record {
    head = tokens;
    names = sym meant.same.names;
    run = subst (λ (c : Chains). RunAlike reading (record { chains = old_chains; statements = statements_in says }) (record { chains = c; statements = statements_in (patterns_in again out).says })) (sym along) meant.run;
  }

  pub keeps_meaning : KeepsMeaning n w cells paths after stil (front ++ rest)
  keeps_meaning = record {
    old = text_on n paths head stil;
    new = text_on w after again out;
    read = reads;
    again = reads_again;
    cells_are = cells_are n w cells keeps.instances paths new after (same_steps n w cells new after same) planned.anew.rearranged planned.fits.traced.once;
    same = same_meaning;
  }
