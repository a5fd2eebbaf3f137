-- What writing the patterns answers, from what comes of the STIL text.
use Rattle.std.proofs.Common.{◌≡◌, ℕ, false, List, [], ◌∷◌, ◌++◌, map, Option, Some, None, option_map, IfSome, Result, Ok, Err, refl, sym, ◌∙◌, ap, subst, append_assoc, append-nil}
use Rattle.std.proofs.lemmas.Grind.{flat_map-append}
use Rattle.base_types.specs.declared.fault.Fault.{Fault}
use Rattle.desk_io.specs.Desk.{SlotState, IsOpen, opened}
use Rattle.desk_io.specs.Causes.{HasRisen, HasFailed}
use Rattle.desk_io.specs.Prefixes.{IsAppended, HasPut, HasPutAndFailed}
use Rattle.stil_types.specs.declared.head.StilHead.{StilHead}
use Rattle.stil_types.specs.declared.statement.PatternStatement.{PatternStatement}
use Rattle.stil_parts.specs.declared.part.PartFault.{PartFault}
use Rattle.stil_reader.specs.Sayings.{Saying, Head, GapByte, Named, Stated, Told, after, refusal, named}
use Rattle.stil_reader.specs.Patterns.{statements_in}
use Rattle.stil_stream.specs.Streams.{Streaming, fault_of}
use Rattle.stil_input.specs.declared.input.StilStop.{StilStop}
use Rattle.stil_input.specs.declared.input.StilStop.TheVariants.{Fault as OfText, Read, NoMemory}
use Rattle.stil_input.specs.Inputs.{Draws, coming, HasDrawn, Says, HasEnded, IsRefused, Gives}
use Rattle.stil_written.specs.Written.{written_saying, written_says}
use Rattle.retargeted_patterns.specs.declared.figures.PatternFigures.{PatternFigures}
use Rattle.retargeted_patterns.specs.Progress.{Progress, after_writing, after_all}
use Rattle.scan_job.specs.declared.putting.PutStop.{PutStop}
use Rattle.scan_job.specs.declared.putting.PutStop.TheVariants as stops
use Rattle.scan_job.specs.Playing.{IsToldFault}
use Rattle.scan_job.specs.Retargeting.{form_by, IsAllOf, IsFrontOf, IsPutOpen, HasFailedPutting, HasPutOn}
use Rattle.scan_job.proofs.Played.{drawn_none, drawn_more, drawn_failed, after_both, none_after}

-- what is put at a slot, piece by piece

appended_more : (front more : List ℕ) (a b c : SlotState) → IsAppended front a b → IsAppended more b c → IsAppended (front ++ more) a c
appended_more front more a b c one other = other ∙ ap (option_map (λ w. w ++ more)) one ∙ both a.written
  where
    both : (o : Option (List ℕ)) → option_map (λ w. w ++ more) (option_map (λ w. w ++ front) o) ≡ option_map (λ w. w ++ (front ++ more)) o
    both None = refl
    both (Some w) = ap Some (append_assoc w front more)

pub open_more : (front more : List ℕ) (a b c : SlotState) → IsPutOpen front a b → HasPut more b c → IsPutOpen (front ++ more) a c
open_more front more a b c one other = record {
  appended = appended_more front more a b c one.appended other.appended;
  faults = other.faults ∙ one.faults;
  open_still = other.stage ∙ one.open_still;
}

pub failed_more : (front more : List ℕ) (a b c : SlotState) → IsPutOpen front a b → HasPutAndFailed more b c → HasFailedPutting (front ++ more) a c
failed_more front more a b c one other = record {
  prefix = record {
    front = front ++ other.front;
    rest = other.rest;
    prefix = ap (λ (l : List ℕ). front ++ l) other.prefix ∙ sym (append_assoc front other.front other.rest);
    appended = appended_more front other.front a b c one.appended other.appended;
  };
  risen = subst (λ (n : ℕ). HasRisen n c.faults) one.faults other.risen;
}

-- nothing was put yet at an open slot
nothing_put : (s : SlotState) → IsOpen s → IsPutOpen [] s s
nothing_put s open_now = record { appended = none s.written; faults = refl; open_still = open_now }
  where
    none : (o : Option (List ℕ)) → o ≡ option_map (λ w. w ++ []) o
    none None = refl
    none (Some w) = ap Some (sym (append-nil w))

-- what was said

statements_both : (one other : List Saying) → statements_in (one ++ other) ≡ statements_in one ++ statements_in other
statements_both [] other = refl
statements_both (Head text ∷ one) other = statements_both one other
statements_both (GapByte b ∷ one) other = statements_both one other
statements_both (Named name ∷ one) other = statements_both one other
statements_both (Stated statement ∷ one) other = ap (λ (ss : List PatternStatement). statement ∷ ss) (statements_both one other)

pub gap_none : (text : List ℕ) (name : Option (List ℕ)) → statements_in (map GapByte text ++ named name) ≡ []
gap_none [] None = refl
gap_none [] (Some name) = refl
gap_none (b ∷ bs) name = gap_none bs name

after_more : (one other : List PatternStatement) (p : Progress) → after_all (one ++ other) p ≡ after_all other (after_all one p)
after_more [] other p = refl
after_more (s ∷ one) other p = after_more one other (after_writing s p)

head_kept : (ss : List PatternStatement) (p : Progress) → (after_all ss p).head ≡ p.head
head_kept [] p = refl
head_kept (s ∷ ss) p = head_kept ss (after_writing s p)

old_kept : (ss : List PatternStatement) (p : Progress) → (after_all ss p).old_chains ≡ p.old_chains
old_kept [] p = refl
old_kept (s ∷ ss) p = old_kept ss (after_writing s p)

new_kept : (ss : List PatternStatement) (p : Progress) → (after_all ss p).new_chains ≡ p.new_chains
new_kept [] p = refl
new_kept (s ∷ ss) p = new_kept ss (after_writing s p)

-- so much was written: what was to come is some sayings, and then what is to come
pub record HasWrittenSo (front : List ℕ) (p q : Progress) (s t : Streaming) (old new out out' : SlotState) : Type 0 where
  pub said : List Saying
  pub comes : coming p.head s old ≡ option_map (after said) (coming p.head t new)
  pub is : q ≡ after_all (statements_in said) p
  pub put : IsPutOpen (front ++ written_says (form_by front p) said) out out'
  pub drawn : HasDrawn old new
  pub draws : Draws t new
  pub behind : t.in_head ≡ false

-- the new head alone was written
pub written_none : (front : List ℕ) (p : Progress) (s : Streaming) (old out out' : SlotState) → Draws s old → s.in_head ≡ false → IsOpen out → HasPut front out out'
    → HasWrittenSo front p p s s old old out out'
written_none front p s old out out' draws behind open_now put = record {
  said = [];
  comes = none_after (coming p.head s old);
  is = refl;
  put = subst (λ (l : List ℕ). IsPutOpen l out out') (sym (append-nil front)) (open_more [] front out out out' (nothing_put out open_now) put);
  drawn = drawn_none old;
  draws = draws;
  behind = behind;
}

module _ (front : List ℕ) (p q : Progress) (s t : Streaming) (old mid out out' : SlotState) (so : HasWrittenSo front p q s t old mid out out') where
  pub same_head : q.head ≡ p.head
  same_head = ap (λ (r : Progress). r.head) so.is ∙ head_kept (statements_in so.said) p

  pub same_old : q.old_chains ≡ p.old_chains
  same_old = ap (λ (r : Progress). r.old_chains) so.is ∙ old_kept (statements_in so.said) p

  pub same_new : q.new_chains ≡ p.new_chains
  same_new = ap (λ (r : Progress). r.new_chains) so.is ∙ new_kept (statements_in so.said) p

  pub form_same : form_by front q ≡ form_by front p
  form_same = rw (same_head, same_old, same_new) refl

  written_both : (said : List Saying) → (front ++ written_says (form_by front p) so.said) ++ written_says (form_by front p) said ≡ front ++ written_says (form_by front p) (so.said ++ said)
  written_both said =
      append_assoc front (written_says (form_by front p) so.said) (written_says (form_by front p) said)
      ∙ ap (λ (l : List ℕ). front ++ l) (sym (flat_map-append (written_saying (form_by front p)) so.said said))

  module _ (u : Streaming) (new out'' : SlotState) (r : Progress) (said : List Saying) (text : List ℕ) where
    -- more was written, and this is its written form
    pub written_more : Says q.head t u mid new said → r ≡ after_all (statements_in said) q → text ≡ written_says (form_by front q) said → HasPut text out' out''
        → HasWrittenSo front p r s u old new out out''
    written_more says is form put = record {
      said = so.said ++ said;
      comes = so.comes ∙ ap (option_map (after so.said)) (subst (λ (head : StilHead). coming head t mid ≡ option_map (after said) (coming head u new)) same_head says.comes)
          ∙ after_both so.said said (coming p.head u new);
      is = is ∙ ap (after_all (statements_in said)) so.is ∙ sym (after_more (statements_in so.said) (statements_in said) p)
          ∙ ap (λ (ss : List PatternStatement). after_all ss p) (sym (statements_both so.said said));
      put = subst (λ (l : List ℕ). IsPutOpen l out out'')
          (ap (λ (l : List ℕ). (front ++ written_says (form_by front p) so.said) ++ l) (form ∙ ap (λ (f : _). written_says f said) form_same) ∙ written_both said)
          (open_more (front ++ written_says (form_by front p) so.said) text out out' out'' so.put put);
      drawn = drawn_more old mid new so.drawn says.drawn;
      draws = says.draws;
      behind = says.behind;
    }

    -- what was to come, of which so much was put, is more
    front_by : (o w : Option Told) → o ≡ option_map (after so.said) w → IfSome o (λ told. IsFrontOf front p told (front ++ written_says (form_by front p) so.said))
    front_by o None comes = subst (λ (o : Option Told). IfSome o (λ told. IsFrontOf front p told (front ++ written_says (form_by front p) so.said))) (sym comes) tt
    front_by o (Some told) comes =
        subst (λ (o : Option Told). IfSome o (λ told. IsFrontOf front p told (front ++ written_says (form_by front p) so.said))) (sym comes)
        (written_says (form_by front p) told.says, sym (written_both told.says))

    failed_by : (o w : Option Told) → o ≡ option_map (after (so.said ++ said)) w → IfSome o (λ told. IsFrontOf front p told (front ++ written_says (form_by front p) (so.said ++ said)))
    failed_by o None comes = subst (λ (o : Option Told). IfSome o (λ told. IsFrontOf front p told (front ++ written_says (form_by front p) (so.said ++ said)))) (sym comes) tt
    failed_by o (Some told) comes =
        subst (λ (o : Option Told). IfSome o (λ told. IsFrontOf front p told (front ++ written_says (form_by front p) (so.said ++ said)))) (sym comes) (
          written_says (form_by front p) told.says,
          ap (λ (l : List ℕ). front ++ l) (flat_map-append (written_saying (form_by front p)) (so.said ++ said) told.says)
              ∙ sym (append_assoc front (written_says (form_by front p) (so.said ++ said)) (written_says (form_by front p) told.says)),
        )

    -- the output failed at it
    pub output_failed : Says q.head t u mid new said → text ≡ written_says (form_by front q) said → HasPutAndFailed text out' out'' → HasPutOn front p s old new out out'' (Err stops.Output)
    output_failed says form failed = (
      front ++ written_says (form_by front p) (so.said ++ said),
      subst (λ (l : List ℕ). HasFailedPutting l out out'')
          (ap (λ (l : List ℕ). (front ++ written_says (form_by front p) so.said) ++ l) (form ∙ ap (λ (f : _). written_says f said) form_same) ∙ written_both said)
          (failed_more (front ++ written_says (form_by front p) so.said) text out out' out'' so.put failed),
      drawn_more old mid new so.drawn says.drawn,
      failed_by (coming p.head s old) (coming p.head u new)
          (so.comes ∙ ap (option_map (after so.said)) (subst (λ (head : StilHead). coming head t mid ≡ option_map (after said) (coming head u new)) same_head says.comes)
          ∙ after_both so.said said (coming p.head u new)),
    )

  -- nothing more was said

  so_far : IfSome (coming p.head s old) (λ told. IsFrontOf front p told (front ++ written_says (form_by front p) so.said))
  so_far = front_by t mid out' q [] [] (coming p.head s old) (coming p.head t mid) so.comes

  abbrev IsEndOf : Option PartFault → Told → Type 0
  IsEndOf f told = (told.fault ≡ f) × IsAllOf front p told (front ++ written_says (form_by front p) so.said) × (statements_in told.says ≡ statements_in so.said)

  end_by : (f : Option PartFault) (o w : Option Told) → o ≡ option_map (after so.said) w → IfSome w (λ told. told ≡ record { says = []; fault = f }) → IfSome o (IsEndOf f)
  end_by f o None comes nothing = subst (λ (o : Option Told). IfSome o (IsEndOf f)) (sym comes) tt
  end_by f o (Some told) comes nothing =
      let all : so.said ++ told.says ≡ so.said = ap (λ (t : Told). so.said ++ t.says) nothing ∙ append-nil so.said in
      subst (λ (o : Option Told). IfSome o (IsEndOf f)) (sym comes)
      (ap (λ (t : Told). t.fault) nothing, ap (λ (says : List Saying). front ++ written_says (form_by front p) says) (sym all), ap statements_in all)

  with_figures : (o : Option Told) (figures : PatternFigures) → figures ≡ q.figures → IfSome o (IsEndOf None)
      → IfSome o (λ told. (told.fault ≡ None) × IsAllOf front p told (front ++ written_says (form_by front p) so.said) × (figures ≡ (after_all (statements_in told.says) p).figures))
  with_figures None figures is ended = tt
  with_figures (Some told) figures is (sound, all, same) =
      (sound, all, is ∙ ap (λ (r : Progress). r.figures) so.is ∙ ap (λ (ss : List PatternStatement). (after_all ss p).figures) (sym same))

  with_fault : (o : Option Told) (f : PartFault) (fault : Fault) → fault ≡ fault_of f → IfSome o (IsEndOf (Some f))
      → IfSome o (λ told. IsToldFault told fault × IsAllOf front p told (front ++ written_says (form_by front p) so.said))
  with_fault None f fault is ended = tt
  with_fault (Some told) f fault is (met, all, same) = (record { found = f; comes = met; is = is }, all)

  pub all_written : (new : SlotState) (figures : PatternFigures) → HasEnded q.head t mid new → figures ≡ q.figures → HasPutOn front p s old new out out' (Ok figures)
  all_written new figures ended is = (
    front ++ written_says (form_by front p) so.said,
    so.put,
    drawn_more old mid new so.drawn ended.drawn,
    ended.at_end,
    with_figures (coming p.head s old) figures is
        (end_by None (coming p.head s old) (coming p.head t mid) so.comes
        (subst (λ (head : StilHead). IfSome (coming head t mid) (λ told. told ≡ record { says = []; fault = None })) same_head ended.comes)),
  )

  fault_met : (new : SlotState) (f : PartFault) (fault : Fault) → IsRefused q.head t mid new f → fault ≡ fault_of f → HasPutOn front p s old new out out' (Err (stops.Input (OfText fault)))
  fault_met new f fault refused is = (
    front ++ written_says (form_by front p) so.said,
    so.put,
    drawn_more old mid new so.drawn refused.drawn,
    with_fault (coming p.head s old) f fault is
        (end_by (Some f) (coming p.head s old) (coming p.head t mid) so.comes (subst (λ (head : StilHead). IfSome (coming head t mid) (λ told. told ≡ refusal f)) same_head refused.comes)),
  )

  -- memory ran out, where some was drawn
  pub ran_out : (new : SlotState) → HasDrawn mid new → HasPutOn front p s old new out out' (Err (stops.Input NoMemory))
  ran_out new drawn = (front ++ written_says (form_by front p) so.said, so.put, drawn_more old mid new so.drawn drawn, so_far)

  pub met_stop : (u : Streaming) (new : SlotState) (stop : StilStop) → Gives q.head t u mid new (Err stop) → HasPutOn front p s old new out out' (Err (stops.Input stop))
  met_stop u new (OfText fault) gives = fault_met new gives.0 fault gives.2 gives.1
  met_stop u new Read drawn = (front ++ written_says (form_by front p) so.said, so.put, drawn_failed old mid new so.drawn drawn, so_far)
  met_stop u new NoMemory drawn = ran_out new drawn

-- the new head wasn't written
pub head_failed : (front : List ℕ) (p : Progress) (s : Streaming) (old out out' : SlotState) → IsOpen out → HasPutAndFailed front out out' → HasPutOn front p s old old out out' (Err stops.Output)
head_failed front p s old out out' open_now failed = (
  front,
  failed_more [] front out out out' (nothing_put out open_now) failed,
  drawn_none old,
  any (coming p.head s old),
)
  where
    any : (o : Option Told) → IfSome o (λ told. IsFrontOf front p told front)
    any None = tt
    any (Some told) = (written_says (form_by front p) told.says, refl)

-- nor was the output opened
pub open_failed : (front : List ℕ) (p : Progress) (s : Streaming) (old out out' : SlotState) → HasFailed out out' → HasPutOn front p s old old out out' (Err stops.Output)
open_failed front p s old out out' failed = (
  [],
  record {
    prefix = record { front = []; rest = []; prefix = refl; appended = ap (λ (t : SlotState). t.written) failed.same ∙ none out.written };
    risen = failed.risen;
  },
  drawn_none old,
  any (coming p.head s old),
)
  where
    none : (o : Option (List ℕ)) → o ≡ option_map (λ w. w ++ []) o
    none None = refl
    none (Some w) = ap Some (sym (append-nil w))

    any : (o : Option Told) → IfSome o (λ told. IsFrontOf front p told [])
    any None = tt
    any (Some told) = (front ++ written_says (form_by front p) told.says, refl)

-- the output was opened before

module _ (a b c : SlotState) (is : b ≡ opened a) where
  appended_opened : (bytes : List ℕ) → IsAppended bytes b c → IsAppended bytes a c
  appended_opened bytes appended = appended ∙ ap (λ (s : SlotState). option_map (λ w. w ++ bytes) s.written) is

  open_opened : (bytes : List ℕ) → IsPutOpen bytes b c → IsPutOpen bytes a c
  open_opened bytes put = record {
    appended = appended_opened bytes put.appended;
    faults = put.faults ∙ ap (λ (s : SlotState). s.faults) is;
    open_still = put.open_still;
  }

  failed_opened : (bytes : List ℕ) → HasFailedPutting bytes b c → HasFailedPutting bytes a c
  failed_opened bytes failed = record {
    prefix = record { front = failed.prefix.front; rest = failed.prefix.rest; prefix = failed.prefix.prefix; appended = appended_opened failed.prefix.front failed.prefix.appended };
    risen = subst (λ (n : ℕ). HasRisen n c.faults) (ap (λ (s : SlotState). s.faults) is) failed.risen;
  }

  pub put_opened : (front : List ℕ) (p : Progress) (s : Streaming) (old new : SlotState) (result : Result PatternFigures PutStop) → HasPutOn front p s old new b c result
      → HasPutOn front p s old new a c result
  put_opened front p s old new (Ok figures) (bytes, put, more, last, told) = (bytes, open_opened bytes put, more, last, told)
  put_opened front p s old new (Err (stops.Input (OfText fault))) (bytes, put, more, told) = (bytes, open_opened bytes put, more, told)
  put_opened front p s old new (Err (stops.Input Read)) (bytes, put, more, told) = (bytes, open_opened bytes put, more, told)
  put_opened front p s old new (Err (stops.Input NoMemory)) (bytes, put, more, told) = (bytes, open_opened bytes put, more, told)
  put_opened front p s old new (Err stops.Output) (bytes, failed, more, told) = (bytes, failed_opened bytes failed, more, told)
