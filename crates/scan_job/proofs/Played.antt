-- What a play of the patterns answers, from what comes of the STIL text.
use Rattle.std.proofs.Common.{◌≡◌, ◌≢◌, ℕ, Bool, true, false, List, [], ◌∷◌, ◌++◌, map, take, Option, Some, None, option_map, IfSome, Result, Ok, Err, refl, sym, ◌∙◌, ap, subst, append_assoc, append-nil, arith, inl, inr}
use Rattle.std.proofs.lemmas.Option.{same_Some}
use Rattle.base_types.specs.declared.fault.Fault.{Fault}
use Rattle.base_types.specs.declared.kind.Kind.TheVariants.{FileSize}
use Rattle.base_types.specs.declared.fault.ReadFault.{ReadFault}
use Rattle.base_types.specs.declared.fault.ReadFault.TheVariants as faults
use Rattle.base_types.specs.Faults.{number_of}
use Rattle.base_types.specs.FirstFault.{ComesBefore, IsFirstFault, IfFault}
use Rattle.base_types.proofs.FirstFaults.{itself, later}
use Rattle.desk_io.specs.Desk.{SlotState, with_unread, with_faults}
use Rattle.desk_io.specs.Causes.{HasRisen}
use Rattle.desk_io.specs.Prefixes.{IsAtEnd}
use Rattle.stil_types.specs.declared.head.StilHead.{StilHead}
use Rattle.stil_types.specs.declared.statement.PatternStatement.{PatternStatement}
use Rattle.stil_head.specs.Heads.{DenotesHead}
use Rattle.stil_head.proofs.Texts.{only_head}
use Rattle.stil_parts.specs.declared.part.PartFault.{PartFault}
use Rattle.stil_parts.specs.Coming.{fault_at}
use Rattle.stil_parts.specs.Heads.{head_len}
use Rattle.stil_reader.specs.Sayings.{Saying, Head, GapByte, Named, Stated, Told, after, refusal, named, beginning, told_before, told_whole}
use Rattle.stil_stream.specs.Streams.{Streaming, fresh, fault_of, told_of}
use Rattle.stil_input.specs.declared.input.StilStop.{StilStop}
use Rattle.stil_input.specs.declared.input.StilStop.TheVariants.{Fault as OfText, Read, NoMemory}
use Rattle.stil_input.specs.Inputs.{Draws, coming, HasDrawn, HasDrawnAndFailed, Says, HasEnded, IsRefused, GivesHead, Gives, stop_of}
use Rattle.play_command.specs.declared.device.DeviceKind.{DeviceKind}
use Rattle.declared_chains.specs.Faults.{HoldsBeforePatterns, IsPatternFault, HoldsInPlay, Before, OfPatterns}
use Rattle.declared_chains.specs.Files.{IsHeadText, chains_along}
use Rattle.play_command.specs.Progress.{Progress, IsSetUp, ProgressLaw, after_saying, after_sayings, finished, at_first}
use Rattle.scan_job.specs.Playing.{IsPlayed, IsPlayFault, IsPlayedOut, IsToldFault, HasPlayed, HasPlayedOn}
use Rattle.declared_chains.proofs.PatternKinds.{before_early, pattern_late}

-- what is drawn

option_same : {X : Type 0} (o : Option (List X)) → o ≡ option_map (λ rest. [] ++ rest) o
option_same None = refl
option_same (Some x) = refl

joined : (front back : List ℕ) (u v w : Option (List ℕ)) → u ≡ option_map (λ rest. front ++ rest) v → v ≡ option_map (λ rest. back ++ rest) w → u ≡ option_map (λ rest. (front ++ back) ++ rest) w
joined front back u v None one other = one ∙ ap (option_map (λ rest. front ++ rest)) other
joined front back u v (Some rest) one other = one ∙ ap (option_map (λ rest. front ++ rest)) other ∙ ap Some (sym (append_assoc front back rest))

pub drawn_none : (s : SlotState) → HasDrawn s s
drawn_none s = ([], record { front = option_same s.unread; same = refl })

pub drawn_more : (a b c : SlotState) → HasDrawn a b → HasDrawn b c → HasDrawn a c
drawn_more a b c one other = (
  one.0 ++ other.0,
  record {
    front = joined one.0 other.0 a.unread b.unread c.unread one.1.front other.1.front;
    same = other.1.same ∙ ap (λ (s : SlotState). with_unread c.unread s) one.1.same;
  },
)

pub drawn_failed : (a b c : SlotState) → HasDrawn a b → HasDrawnAndFailed b c → HasDrawnAndFailed a c
drawn_failed a b c one other = (
  one.0 ++ other.0,
  record {
    front = joined one.0 other.0 a.unread b.unread c.unread one.1.front other.1.front;
    risen = subst (λ (s : SlotState). HasRisen s.faults c.faults) one.1.same other.1.risen;
    same = other.1.same ∙ ap (λ (s : SlotState). with_faults c.faults (with_unread c.unread s)) one.1.same;
  },
)

-- what is said

pub after_more : (one other : List Saying) (p : Progress) → after_sayings (one ++ other) p ≡ after_sayings other (after_sayings one p)
after_more [] other p = refl
after_more (saying ∷ one) other p = after_more one other (after_saying saying p)

pub after_gap : (text : List ℕ) (more : List Saying) (p : Progress) → after_sayings (map GapByte text ++ more) p ≡ after_sayings more p
after_gap [] more p = refl
after_gap (b ∷ bs) more p = after_gap bs more p

head_after : (saying : Saying) (p : Progress) → (after_saying saying p).head ≡ p.head
head_after (Head text) p = refl
head_after (GapByte byte) p = refl
head_after (Named name) p = refl
head_after (Stated statement) p = refl

pub head_kept : (says : List Saying) (p : Progress) → (after_sayings says p).head ≡ p.head
head_kept [] p = refl
head_kept (saying ∷ says) p = head_kept says (after_saying saying p) ∙ head_after saying p

abbrev told_with : Option PartFault → List Saying → Told
told_with fault says = record { says = says; fault = fault }

pub after_both : (one other : List Saying) (o : Option Told) → option_map (after one) (option_map (after other) o) ≡ option_map (after (one ++ other)) o
after_both one other None = refl
after_both one other (Some told) = ap Some (ap (told_with told.fault) (sym (append_assoc one other told.says)))

pub none_after : (o : Option Told) → o ≡ option_map (after []) o
none_after None = refl
none_after (Some told) = refl

-- so much was played: what was to come is some sayings, and then what is to come
pub record HasCome (p q : Progress) (s t : Streaming) (old new : SlotState) : Type 0 where
  pub said : List Saying
  pub comes : coming p.head s old ≡ option_map (after said) (coming p.head t new)
  pub is : q ≡ after_sayings said p
  pub drawn : HasDrawn old new
  pub draws : Draws t new
  pub behind : t.in_head ≡ false

module _ (p q : Progress) (s t : Streaming) (old mid : SlotState) (come : HasCome p q s t old mid) where
  pub same_head : q.head ≡ p.head
  same_head = ap (λ (r : Progress). r.head) come.is ∙ head_kept come.said p

  module _ (u : Streaming) (new : SlotState) where
    pub come_more : (r : Progress) (said : List Saying) → Says q.head t u mid new said → r ≡ after_sayings said q → HasCome p r s u old new
    come_more r said says is = record {
      said = come.said ++ said;
      comes = come.comes ∙ ap (option_map (after come.said)) (subst (λ (head : StilHead). coming head t mid ≡ option_map (after said) (coming head u new)) same_head says.comes)
          ∙ after_both come.said said (coming p.head u new);
      is = is ∙ ap (after_sayings said) come.is ∙ sym (after_more come.said said p);
      drawn = drawn_more old mid new come.drawn says.drawn;
      draws = says.draws;
      behind = says.behind;
    }

    pub come_gap : (head : StilHead) → head ≡ q.head → (r : Progress) (text : List ℕ) (pattern : Option (List ℕ)) → Says head t u mid new (map GapByte text ++ named pattern)
        → r ≡ after_sayings (named pattern) q → HasCome p r s u old new
    come_gap head same r text pattern says is =
        let said = map GapByte text ++ named pattern in
        come_more r said (subst (λ (h : StilHead). Says h t u mid new said) same says) (is ∙ sym (after_gap text (named pattern) q))

    pub come_stated : (head : StilHead) → head ≡ q.head → (r : Progress) (statement : PatternStatement) → Says head t u mid new (Stated statement ∷ [])
        → r ≡ after_saying (Stated statement) q → HasCome p r s u old new
    come_stated head same r statement says is = come_more r (Stated statement ∷ []) (subst (λ (h : StilHead). Says h t u mid new (Stated statement ∷ [])) same says) is

    pub drawn_said : (head : StilHead) (said : List Saying) → Says head t u mid new said → HasDrawn old new
    drawn_said head said says = drawn_more old mid new come.drawn says.drawn

  ended_told : (o w : Option Told) → o ≡ option_map (after come.said) w → IfSome w (λ told. told ≡ record { says = []; fault = None }) → (said : List ℕ) → said ≡ finished q
      → IfSome o (λ told. IsPlayedOut p told said)
  ended_told o None comes nothing said is = subst (λ (o : Option Told). IfSome o (λ told. IsPlayedOut p told said)) (sym comes) tt
  ended_told o (Some told) comes nothing said is =
      subst (λ (o : Option Told). IfSome o (λ told. IsPlayedOut p told said)) (sym comes)
      (record {
        sound = ap (λ (t : Told). t.fault) nothing;
        is = is ∙ ap finished (come.is ∙ ap (λ (says : List Saying). after_sayings says p) (sym (append-nil come.said) ∙ ap (λ (t : Told). come.said ++ t.says) (sym nothing)));
      })

  pub all_played : (new : SlotState) (said : List ℕ) → HasEnded q.head t mid new → said ≡ finished q
      → HasDrawn old new × IsAtEnd new × IfSome (coming p.head s old) (λ told. IsPlayedOut p told said)
  all_played new said ended is = (
    drawn_more old mid new come.drawn ended.drawn,
    ended.at_end,
    ended_told (coming p.head s old) (coming p.head t mid) come.comes
        (subst (λ (head : StilHead). IfSome (coming head t mid) (λ told. told ≡ record { says = []; fault = None })) same_head ended.comes) said is,
  )

  refused_told : (o w : Option Told) (f : PartFault) (fault : Fault) → o ≡ option_map (after come.said) w → IfSome w (λ told. told ≡ refusal f) → fault ≡ fault_of f
      → IfSome o (λ told. IsToldFault told fault)
  refused_told o None f fault comes refused is = subst (λ (o : Option Told). IfSome o (λ told. IsToldFault told fault)) (sym comes) tt
  refused_told o (Some told) f fault comes refused is =
      subst (λ (o : Option Told). IfSome o (λ told. IsToldFault told fault)) (sym comes) (record { found = f; comes = ap (λ (t : Told). t.fault) refused; is = is })

  pub fault_met : (new : SlotState) (f : PartFault) (fault : Fault) → IsRefused q.head t mid new f → fault ≡ fault_of f
      → HasDrawn old new × IfSome (coming p.head s old) (λ told. IsToldFault told fault)
  fault_met new f fault refused is = (
    drawn_more old mid new come.drawn refused.drawn,
    refused_told (coming p.head s old) (coming p.head t mid) f fault come.comes (subst (λ (head : StilHead). IfSome (coming head t mid) (λ told. told ≡ refusal f)) same_head refused.comes) is,
  )

-- nothing more was said
pub met_stop : (p q : Progress) (s t u : Streaming) (old mid new : SlotState) (head : StilHead) → HasCome p q s t old mid → head ≡ q.head
    → (stop : StilStop) → Gives head t u mid new (Err stop) → HasPlayedOn p s old new (Err stop)
met_stop p q s t u old mid new head come is (OfText fault) gives =
    fault_met p q s t old mid come new gives.0 fault (subst (λ (h : StilHead). IsRefused h t mid new gives.0) is gives.2) gives.1
met_stop p q s t u old mid new head come is Read drawn = drawn_failed old mid new come.drawn drawn
met_stop p q s t u old mid new head come is NoMemory drawn = drawn_more old mid new come.drawn drawn

pub come_none : (p : Progress) (s : Streaming) (old : SlotState) → Draws s old → s.in_head ≡ false → HasCome p p s s old old
come_none p s old draws behind = record { said = []; comes = none_after (coming p.head s old); is = refl; drawn = drawn_none old; draws = draws; behind = behind }

-- a whole text

-- a head that says nothing
abbrev pub any_head : StilHead
any_head = record { chains = []; procedures = []; macros = []; keywords = []; marks = false; end = 0 }

-- nothing is said
abbrev says_nothing : List Saying → Bool
says_nothing [] = true
says_nothing (saying ∷ says) = false

-- the head, where it is said first
abbrev first_head : List Saying → List ℕ
first_head [] = []
first_head (Head text ∷ says) = text
first_head (GapByte byte ∷ says) = []
first_head (Named name ∷ says) = []
first_head (Stated statement ∷ says) = []

module _ (head : StilHead) (stil : List ℕ) where
  shown_by : (o : Option ℕ) (text : List ℕ) (rest : Told) → head_len stil ≡ o → told_before head beginning stil o ≡ after (Head text ∷ []) rest → IsHeadText stil text
  shown_by None text rest shows comes = let no : true ≡ false = ap (λ (t : Told). says_nothing t.says) comes in absurd cc
  shown_by (Some n) text rest shows comes = record { len = n; ends = shows; is = sym (ap (λ (t : Told). first_head t.says) comes) }

  pub head_text_is : (text : List ℕ) (rest : Told) → told_whole head stil ≡ after (Head text ∷ []) rest → IsHeadText stil text
  head_text_is text rest comes = shown_by (head_len stil) text rest refl comes

  hidden_by : (o : Option ℕ) (f : PartFault) → head_len stil ≡ o → told_before head beginning stil o ≡ refusal f → (head_len stil ≡ None) × (f ≡ fault_at FileSize 0)
  hidden_by None f shows comes = (shows, sym (same_Some _ _ (ap (λ (t : Told). t.fault) comes)))
  hidden_by (Some n) f shows comes = let no : false ≡ true = ap (λ (t : Told). says_nothing t.says) comes in absurd cc

  pub no_head : (f : PartFault) → told_whole head stil ≡ refusal f → (head_len stil ≡ None) × (f ≡ fault_at FileSize 0)
  no_head f comes = hidden_by (head_len stil) f refl comes

pub head_shows : (stil text : List ℕ) → IsHeadText stil text → head_len stil ≢ None
head_shows stil text is none = let shows = is.ends in absurd cc

pub one_text : (stil one other : List ℕ) → IsHeadText stil one → IsHeadText stil other → other ≡ one
one_text stil one other first second =
    let same : Some second.len ≡ Some first.len = sym second.ends ∙ first.ends in
    let len = same_Some _ _ same in
    second.is ∙ ap (λ (n : ℕ). take n stil) len ∙ sym first.is

module _ (table verilog stil text : List ℕ) (shown : IsHeadText stil text) where
  pub first_before : (f : Fault) → IsFirstFault (HoldsBeforePatterns table verilog text) f → IsFirstFault (HoldsInPlay table verilog stil) f
  first_before f first = record { holds = Before text shown first.holds; least = least }
    where
      least : (g : Fault) → HoldsInPlay table verilog stil g → ComesBefore g f → ⊥
      least g (Before other is held) sooner = first.least g (subst (λ (t : List ℕ). HoldsBeforePatterns table verilog t g) (one_text stil text other shown is) held) sooner
      least g (OfPatterns other is met) sooner =
          let low = before_early table verilog text f first.holds in
          let high = (pattern_late met.head stil is.len met.found is.ends met.says).0 in
          let kind : number_of g.kind ≡ number_of met.found.kind = ap (λ (x : Fault). number_of x.kind) met.is in
          later f g (omega (arith, low, high, kind)) sooner

  module _ (none : (f : Fault) → HoldsBeforePatterns table verilog text f → ⊥) (head : StilHead) (denotes : DenotesHead text head) where
    met_at : (g : Fault) (other : List ℕ) → IsHeadText stil other → (met : IsPatternFault stil other g) → (told_whole head stil).fault ≡ Some met.found
    met_at g other is met =
        let same = only_head text head met.head denotes (subst (λ (t : List ℕ). DenotesHead t met.head) (one_text stil text other shown is) met.head_is) in
        ap (λ (h : StilHead). (told_whole h stil).fault) (sym same) ∙ met.says

    pub first_pattern : (f : Fault) → IsToldFault (told_whole head stil) f → IsFirstFault (HoldsInPlay table verilog stil) f
    first_pattern f told = record {
      holds = OfPatterns text shown (record { head = head; head_is = denotes; found = told.found; says = told.comes; is = told.is });
      least = least;
    }
      where
        least : (g : Fault) → HoldsInPlay table verilog stil g → ComesBefore g f → ⊥
        least g (Before other is held) sooner = none g (subst (λ (t : List ℕ). HoldsBeforePatterns table verilog t g) (one_text stil text other shown is) held)
        least g (OfPatterns other is met) sooner =
            let both : Some met.found ≡ Some told.found = sym (met_at g other is met) ∙ told.comes in
            let one = same_Some _ _ both in
            let same : g ≡ f = met.is ∙ ap fault_of one ∙ sym told.is in
            itself f (subst (λ (x : Fault). ComesBefore x f) same sooner)

    pub none_at_all : (told_whole head stil).fault ≡ None → (f : Fault) → HoldsInPlay table verilog stil f → ⊥
    none_at_all sound f (Before other is held) = none f (subst (λ (t : List ℕ). HoldsBeforePatterns table verilog t f) (one_text stil text other shown is) held)
    none_at_all sound f (OfPatterns other is met) = let found : None ≡ Some met.found = sym sound ∙ met_at f other is met in absurd cc

-- what holds of the bytes that a slot tells
pub told_if : (P : List ℕ → Type 0) (u : Option (List ℕ)) → ((stil : List ℕ) → u ≡ Some stil → P stil) → IfSome u P
told_if P None holds = tt
told_if P (Some stil) holds = holds stil refl

-- what comes of a whole text
pub comes_whole : (head : StilHead) (s : Streaming) (slot : SlotState) (stil : List ℕ) → s ≡ fresh → slot.unread ≡ Some stil → coming head s slot ≡ Some (told_whole head stil)
comes_whole head s slot stil is told = ap (option_map (told_of head s)) told ∙ ap (λ (z : Streaming). Some (told_of head z stil)) is

-- no head was found
pub head_refused : (table verilog : List ℕ) (s : Streaming) (a b : SlotState) (f : PartFault) (fault : Fault) → s ≡ fresh → fault ≡ fault_of f → ((head : StilHead) → IsRefused head s a b f)
    → HasDrawn a b × IfSome a.unread (λ stil. IsPlayFault table verilog stil fault)
head_refused table verilog s a b f fault is_fresh is refused = (
  (refused any_head).drawn,
  told_if (λ stil. IsPlayFault table verilog stil fault) a.unread (λ stil told.
      let none = no_head any_head stil f (subst (λ (o : Option Told). IfSome o (λ t. t ≡ refusal f)) (comes_whole any_head s a stil is_fresh told) (refused any_head).comes) in
      inl (none.0, is ∙ ap fault_of none.1)),
)

-- the head was not handed out
pub head_stopped : (table verilog : List ℕ) (device : DeviceKind) (s t : Streaming) (a b : SlotState) → s ≡ fresh → (stop : StilStop) → GivesHead s t a b (Err stop)
    → HasPlayed table verilog device a b (Err stop)
head_stopped table verilog device s t a b is_fresh (OfText fault) gives = head_refused table verilog s a b gives.0 fault is_fresh gives.1 gives.2
head_stopped table verilog device s t a b is_fresh Read drawn = drawn
head_stopped table verilog device s t a b is_fresh NoMemory drawn = drawn

-- the text of a head was found

module _ (table verilog text : List ℕ) (s t : Streaming) (a b : SlotState) (is_fresh : s ≡ fresh) (says : (head : StilHead) → Says head s t a b (Head text ∷ [])) where
  -- what the whole text says is its head, and then what is to come
  whole_of : (head : StilHead) (stil : List ℕ) → a.unread ≡ Some stil → Some (told_whole head stil) ≡ option_map (after (Head text ∷ [])) (coming head t b)
  whole_of head stil told = sym (comes_whole head s a stil is_fresh told) ∙ (says head).comes

  before_by : (stil : List ℕ) (fault : Fault) (w : Option Told) → Some (told_whole any_head stil) ≡ option_map (after (Head text ∷ [])) w
      → IsFirstFault (HoldsBeforePatterns table verilog text) fault → IsPlayFault table verilog stil fault
  before_by stil fault None comes first = absurd cc
  before_by stil fault (Some told) comes first =
      let whole = same_Some _ _ comes in
      let shown = head_text_is any_head stil text told whole in
      inr (head_shows stil text shown, first_before table verilog stil text shown fault first)

  pub fault_before : (fault : Fault) → IsFirstFault (HoldsBeforePatterns table verilog text) fault → HasDrawn a b × IfSome a.unread (λ stil. IsPlayFault table verilog stil fault)
  fault_before fault first =
      ((says any_head).drawn, told_if (λ stil. IsPlayFault table verilog stil fault) a.unread (λ stil told. before_by stil fault (coming any_head t b) (whole_of any_head stil told) first))

  pub stopped_before : (device : DeviceKind) (fault : ReadFault) → IfFault {X = Progress} (Err fault) (IsFirstFault (HoldsBeforePatterns table verilog text))
      → HasPlayed table verilog device a b (Err (stop_of fault))
  stopped_before device (faults.Fault fault) first = fault_before fault first
  stopped_before device faults.NoMemory first = (says any_head).drawn

  module _ (device : DeviceKind) (p : Progress) (set : IsSetUp table verilog text device p) (none : (f : Fault) → HoldsBeforePatterns table verilog text f → ⊥) where
    fault_by : (stil : List ℕ) (fault : Fault) (w : Option Told) → Some (told_whole p.head stil) ≡ option_map (after (Head text ∷ [])) w → IfSome w (λ told. IsToldFault told fault)
        → IsPlayFault table verilog stil fault
    fault_by stil fault None comes met = absurd cc
    fault_by stil fault (Some told) comes met =
        let whole = same_Some _ _ comes in
        let shown = head_text_is p.head stil text told whole in
        inr (
          head_shows stil text shown,
          first_pattern table verilog stil text shown none p.head set.traced.read.head_is fault
              (record { found = met.found; comes = ap (λ (t : Told). t.fault) whole ∙ met.comes; is = met.is }),
        )

    played_by : ProgressLaw → (stil said : List ℕ) (w : Option Told) → Some (told_whole p.head stil) ≡ option_map (after (Head text ∷ [])) w → IfSome w (λ told. IsPlayedOut p told said)
        → IsPlayed table verilog stil device said
    played_by law stil said None comes out = absurd cc
    played_by law stil said (Some told) comes out =
        let whole = same_Some _ _ comes in
        let shown = head_text_is p.head stil text told whole in
        let chains = chains_along set.netlist set.cells set.paths in
        let first = at_first p.head chains device in
        record {
          head = head_shows stil text shown;
          no_fault = none_at_all table verilog stil text shown none p.head set.traced.read.head_is (ap (λ (t : Told). t.fault) whole ∙ out.sound);
          is = record {
            text = text;
            head_is = shown;
            cells = set.cells;
            netlist = set.netlist;
            head = p.head;
            paths = set.paths;
            traced = set.traced;
            same = out.is ∙ ap (λ (q : Progress). finished (after_sayings told.says q)) set.first
                ∙ ap (λ (said : List Saying). finished (after_sayings said first)) (sym (ap (λ (t : Told). t.says) whole)) ∙ law p.head chains device (told_whole p.head stil).says;
          };
        }

    pub played_whole : ProgressLaw → (c : SlotState) (result : Result (List ℕ) StilStop) → HasPlayedOn p t b c result → HasPlayed table verilog device a c result
    played_whole law c (Ok said) (drawn, at_end, out) = (
      drawn_more a b c (says p.head).drawn drawn,
      at_end,
      told_if (λ stil. IsPlayed table verilog stil device said) a.unread (λ stil told. played_by law stil said (coming p.head t b) (whole_of p.head stil told) out),
    )
    played_whole law c (Err (OfText fault)) (drawn, met) = (
      drawn_more a b c (says p.head).drawn drawn,
      told_if (λ stil. IsPlayFault table verilog stil fault) a.unread (λ stil told. fault_by stil fault (coming p.head t b) (whole_of p.head stil told) met),
    )
    played_whole law c (Err Read) drawn = drawn_failed a b c (says p.head).drawn drawn
    played_whole law c (Err NoMemory) drawn = drawn_more a b c (says p.head).drawn drawn
