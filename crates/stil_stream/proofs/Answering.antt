-- What each call answers, from what was decided.
use Rattle.std.proofs.Common.{◌≡◌, ℕ, ◌+◌, ◌-◌, ◌<◌, ◌≤◌, Bool, true, false, List, [], ◌∷◌, ◌++◌, length, take, drop, map, Option, Some, None, Err, refl, sym, ap, subst, ◌∙◌, arith, inl, inr}
use Rattle.std.specs.Prelude.{min, ◌||◌, nat_lt, is_some, if◌then◌else◌}
use Rattle.std.specs.List.{flat_map}
use Rattle.std.proofs.lemmas.Bool.{cases_Bool, lt-ltb, le-ltb, ltb-true, ltb-false}
use Rattle.std.proofs.lemmas.List.{append-nil, take-append-drop, length-take-le, take_all, take_rest}
use Rattle.base_types.specs.declared.kind.Kind.TheVariants.{FileSize}
use Rattle.base_types.specs.FirstFault.{IsFirstFault}
use Rattle.base_types.specs.declared.fault.Fault.{Fault}
use Rattle.base_types.specs.declared.fault.ReadFault.{ReadFault}
use Rattle.base_types.specs.declared.fault.ReadFault.TheVariants as faults
use Rattle.stil_types.specs.declared.head.StilHead.{StilHead}
use Rattle.stil_types.specs.declared.statement.PatternStatement.{PatternStatement}
use Rattle.stil_parts.specs.declared.gap.Place.TheVariants.{Top}
use Rattle.stil_parts.specs.declared.gap.Comment.TheVariants.{Outside}
use Rattle.stil_parts.specs.declared.gap.Point.{Point}
use Rattle.stil_parts.specs.declared.part.Part.{Part}
use Rattle.stil_parts.specs.declared.part.Part.TheVariants.{Passes, Opens, Whole}
use Rattle.stil_parts.specs.declared.part.PartFault.{PartFault}
use Rattle.stil_parts.specs.Parts.{part_len}
use Rattle.stil_parts.specs.Coming.{Event, Byte, Judge, before, stopped, fault_at, largest, moved, part_events, point_behind, to_come, IsEarly}
use Rattle.stil_parts.specs.Heads.{head_end, head_len}
use Rattle.stil_parts.specs.Deciding.{Follows, Shown, Takes, IsPart, IsStopped, IsWanting, verdict}
use Rattle.stil_calls.specs.Faults.{fault_in}
use Rattle.stil_calls.specs.Statements.{DenotesStatement, HoldsInStatement}
use Rattle.stil_calls.specs.Parts.{judge_by, judge_of}
use Rattle.stil_reader.specs.Sayings.{Saying, Head, GapByte, Stated, after, name_in, named, statement_at, said, told, told_before, told_behind, told_from, text_of}
use Rattle.stil_stream.specs.Streams.{Streaming, hungry_again, refused, handed_out, shows_head, shows_part, is_shown, told_of, fault_of, Wants, HandsOut, IsFirst, AreGaps, Answers, HeadAnswers}
use Rattle.stil_reader.proofs.Said.{told-on, said-bytes, said-part, said-statement, text-is}
use Rattle.stil_stream.proofs.Stating.{fault-one}
use Rattle.stil_stream.proofs.Telling.{shown-behind, wants-behind, len-goes, len-ends, len-none, head-told}

some-text : (kept : List ℕ) (n : ℕ) (text : List ℕ) → text ≡ take n kept → 0 < n → n ≤ length kept → 0 < length text
some-text kept n text is some le = omega (arith, ap length is, length-take-le n kept le)

-- the point behind the first bytes counts them
counts : (p q : Point) (kept text : List ℕ) (n : ℕ) → q.given ≡ p.given + n → text ≡ take n kept → n ≤ length kept → q.given ≡ p.given + length text
counts p q kept text n e is le = omega (arith, ap length is, length-take-le n kept le)

counts-part : (p : Point) (part : Part) (bytes : List ℕ) → (point_behind p part bytes).given ≡ p.given + length bytes
counts-part p (Passes n) bytes = refl
counts-part p (Opens n) bytes = refl
counts-part p (Whole n) bytes = refl

-- bytes are handed out
pub hands-out : (head : StilHead) (old new : Streaming) (n : ℕ) (q : Point) (text : List ℕ) (says : List Saying) → new ≡ handed_out n q old → text ≡ take n old.kept → old.fault ≡ None
    → is_shown old ≡ true → q.given ≡ old.point.given + length text → IsEarly q
    → ((more : List ℕ) → Follows old.ended more → told_of head old more ≡ after says (told_from head false q (drop n old.kept ++ more))) → HandsOut head old new text says
hands-out head old new n q text says e is sound shown given early comes = record {
  sound = sound;
  shown = shown;
  kept = sym (take-append-drop n old.kept) ∙ ap (λ (x : List ℕ). x ++ drop n old.kept) (sym is) ∙ ap (λ (s : Streaming). text ++ s.kept) (sym e);
  given = ap (λ (s : Streaming). s.point.given) e ∙ given;
  early = subst (λ (s : Streaming). IsEarly s.point) (sym e) early;
  comes = λ more follows. comes more follows ∙ ap (λ (s : Streaming). after says (told_of head s more)) (sym e);
  rest = subst (λ (s : Streaming). s ≡ record old { kept = s.kept; in_head = false; point = s.point }) (sym e) refl;
}

-- behind the head
module _ (head : StilHead) (old new : Streaming) (sound : old.fault ≡ None) (behind : old.in_head ≡ false) where
  told-here : (more : List ℕ) → told_of head old more ≡ told_behind head old.point (old.kept ++ more)
  told-here more = ap (λ (b : Bool). told_from head b old.point (old.kept ++ more)) behind

  is-shown : Shown (judge_of head) old.ended old.point old.kept → is_shown old ≡ true
  is-shown s = shown-behind (judge_of head) old.ended old.in_head old.point old.kept behind s

  told-as : (es : List Event) (says : List Saying) (more : List ℕ) (q : Point) (rest : List ℕ) → flat_map (said head) es ≡ says
      → to_come (judge_of head) old.point 0 (old.kept ++ more) ≡ before es (to_come (judge_of head) q 0 rest) → told_of head old more ≡ after says (told_from head false q rest)
  told-as es says more q rest e c =
      told-here more ∙ ap (told head) c ∙ told-on head es (to_come (judge_of head) q 0 rest)
      ∙ ap (λ (xs : List Saying). after xs (told_from head false q rest)) e

  pub gap-out : (n : ℕ) (q : Point) (text : List ℕ) → new ≡ handed_out n q old → text ≡ take n old.kept → Takes (judge_of head) old.ended old.point old.kept n (map Byte (take n old.kept)) q
      → (0 < length text) × HandsOut head old new text (map GapByte text ++ named None)
  gap-out n q text e is t =
      let says : flat_map (said head) (map Byte (take n old.kept)) ≡ map GapByte text ++ named None = said-bytes head (take n old.kept) ∙ ap (map GapByte) (sym is) ∙ sym (append-nil (map GapByte text)) in (
        some-text old.kept n text is t.some t.within,
        hands-out head old new n q text _ e is sound (is-shown t.shown) (counts old.point q old.kept text n t.given is t.within) t.early
            (λ more follows. told-as (map Byte (take n old.kept)) _ more q (drop n old.kept ++ more) says (t.comes more follows)),
      )

  -- a part without fault
  part-out : (part : Part) (q : Point) (says : List Saying) → IsPart (judge_of head) old.ended old.point old.kept part q → judge_of head old.point part (take (part_len part) old.kept) ≡ None
      → flat_map (said head) (part_events old.point part (take (part_len part) old.kept)) ≡ says → (more : List ℕ) → Follows old.ended more
      → told_of head old more ≡ after says (told_from head false q (drop (part_len part) old.kept ++ more))
  part-out part q says p fine e more follows =
      let n = part_len part in
      let es = part_events old.point part (take n old.kept) in
      told-as es says more q (drop n old.kept ++ more) e
      (p.comes more follows ∙ ap (λ (o : Option PartFault). verdict o (before es (to_come (judge_of head) q 0 (drop n old.kept ++ more)))) fine)

  counted : (part : Part) (q : Point) (text : List ℕ) → IsPart (judge_of head) old.ended old.point old.kept part q → text ≡ take (part_len part) old.kept → q.given ≡ old.point.given + length text
  counted part q text p is =
      ap (λ (r : Point). r.given) p.point ∙ counts-part old.point part (take (part_len part) old.kept) ∙ ap (λ (x : List ℕ). old.point.given + length x) (sym is)

  pub pass-out : (part : Part) (q : Point) (text : List ℕ) (name : Option (List ℕ)) → ((m : ℕ) → part ≡ Whole m → ⊥) → new ≡ handed_out (part_len part) q old → text ≡ take (part_len part) old.kept
      → name ≡ name_in part (take (part_len part) old.kept) → IsPart (judge_of head) old.ended old.point old.kept part q → judge_of head old.point part (take (part_len part) old.kept) ≡ None
      → (0 < length text) × HandsOut head old new text (map GapByte text ++ named name)
  pass-out part q text name other e is same p fine =
      let n = part_len part in
      let says : flat_map (said head) (part_events old.point part (take n old.kept)) ≡ map GapByte text ++ named name =
      said-part head old.point part (take n old.kept) other ∙ ap (λ (x : List ℕ). map GapByte x ++ named (name_in part (take n old.kept))) (sym is)
      ∙ ap (λ (o : Option (List ℕ)). map GapByte text ++ named o) (sym same) in
      (some-text old.kept n text is p.some p.within, hands-out head old new n q text _ e is sound (is-shown p.shown) (counted part q text p is) p.early (part-out part q _ p fine says))

  pub statement-out : (n : ℕ) (q : Point) (text : List ℕ) (s : PatternStatement) → new ≡ handed_out n q old → text ≡ take n old.kept → statement_at head old.point (take n old.kept) ≡ Some s
      → IsPart (judge_of head) old.ended old.point old.kept (Whole n) q → judge_of head old.point (Whole n) (take n old.kept) ≡ None → (0 < length text) × HandsOut head old new text (Stated s ∷ [])
  statement-out n q text s e is denotes p fine = (
    some-text old.kept n text is p.some p.within,
    hands-out head old new n q text _ e is sound (is-shown p.shown) (counted (Whole n) q text p is) p.early (part-out (Whole n) q _ p fine (said-statement head old.point (take n old.kept) s denotes)),
  )

  -- a fault
  first-as : (f : PartFault) → new ≡ refused f old → Shown (judge_of head) old.ended old.point old.kept
      → ((more : List ℕ) → Follows old.ended more → to_come (judge_of head) old.point 0 (old.kept ++ more) ≡ stopped f) → IsFirst head old new f
  first-as f e shown comes = record {
    sound = sound;
    shown = is-shown shown;
    comes = λ more follows. told-here more ∙ ap (told head) (comes more follows);
    stored = e;
  }

  pub stop-first : (f : PartFault) → new ≡ refused f old → IsStopped (judge_of head) old.ended old.point old.kept f → IsFirst head old new f
  stop-first f e s = first-as f e s.shown s.comes

  pub part-first : (part : Part) (q : Point) (f : PartFault) → new ≡ refused f old → IsPart (judge_of head) old.ended old.point old.kept part q
      → judge_of head old.point part (take (part_len part) old.kept) ≡ Some f → IsFirst head old new f
  part-first part q f e p found =
      let n = part_len part in
      first-as f e p.shown (λ more follows. p.comes more follows
      ∙ ap (λ (o : Option PartFault). verdict o (before (part_events old.point part (take n old.kept)) (to_come (judge_of head) q 0 (drop n old.kept ++ more)))) found)

  -- a statement that the bytes denote
  judge-whole : (n : ℕ) (text : List ℕ) → judge_of head old.point (Whole n) text ≡ fault_in head old.point.line text
  unfolding judge_by
  judge-whole n text = refl

  pub denoted-out : (n : ℕ) (q : Point) (pattern line : ℕ) (text : List ℕ) (s : PatternStatement) → text ≡ take n old.kept → pattern ≡ old.point.opened - 1 → line ≡ old.point.line
      → DenotesStatement head pattern line text s → new ≡ handed_out n q old → IsPart (judge_of head) old.ended old.point old.kept (Whole n) q
      → (0 < length (text_of s)) × HandsOut head old new (text_of s) (Stated s ∷ [])
  denoted-out n q pattern line text s is number place d e p =
      let here = subst (λ (l : ℕ). DenotesStatement head (old.point.opened - 1) l (take n old.kept) s) place
      (subst (λ (m : ℕ). DenotesStatement head m line (take n old.kept) s) number (subst (λ (t : List ℕ). DenotesStatement head pattern line t s) is d)) in
      statement-out n q (text_of s) s e (text-is head (old.point.opened - 1) old.point.line (take n old.kept) _ s here.is) here.is p (judge-whole n (take n old.kept) ∙ here.sound)

  -- or its first fault
  pub refused-whole : (n : ℕ) (q : Point) (line : ℕ) (text : List ℕ) (fault : Fault) (f : PartFault) → text ≡ take n old.kept → line ≡ old.point.line → IsFirstFault (HoldsInStatement head line text) fault
      → fault ≡ fault_of f → new ≡ refused f old → IsPart (judge_of head) old.ended old.point old.kept (Whole n) q → IsFirst head old new f
  refused-whole n q line text fault f is place first same e p =
      let here = subst (λ (l : ℕ). HoldsInStatement head l (take n old.kept) fault) place (subst (λ (t : List ℕ). HoldsInStatement head line t fault) is first.holds) in
      let one : here.0 ≡ f = fault-one here.0 f (sym here.2 ∙ same) in
      part-first (Whole n) q f e p (judge-whole n (take n old.kept) ∙ here.1 ∙ ap (λ (g : PartFault). Some g) one)

  -- such an answer
  pub answers-first : (f : PartFault) (answer : ReadFault) → answer ≡ faults.Fault (fault_of f) → IsFirst head old new f → Answers head old new (Err answer)
  answers-first f answer e first = subst (λ (a : ReadFault). Answers head old new (Err a)) (sym e) (f, refl, inr first)

  pub wants-more : new ≡ hungry_again old → IsWanting (judge_of head) old.ended old.point old.kept → Wants old new
  wants-more e w = record {
    sound = sound;
    nothing_shown = wants-behind (judge_of head) old.ended old.in_head old.point old.kept behind w.unended w.none;
    same = e;
  }

-- where the head is still to come
module _ (old new : Streaming) (sound : old.fault ≡ None) (before_head : old.in_head ≡ true) where
  shown-head : (old.ended || shows_head old.kept) ≡ true → is_shown old ≡ true
  shown-head e = ap (λ (b : Bool). old.ended || (if b then shows_head old.kept else shows_part old.point old.kept)) before_head ∙ e

  pub head-wants : new ≡ hungry_again old → old.ended ≡ false → length old.kept ≤ largest → head_end false Outside 0 old.kept ≡ None → Wants old new
  head-wants e unended few none = record {
    sound = sound;
    nothing_shown = ap (λ (b : Bool). b || (if old.in_head then shows_head old.kept else shows_part old.point old.kept)) unended
        ∙ ap (λ (b : Bool). if b then shows_head old.kept else shows_part old.point old.kept) before_head
        ∙ (rw (le-ltb largest (length old.kept) few, none) refl);
    same = e;
  }

  or-large : (e : Bool) (kept : List ℕ) → largest < length kept → (e || shows_head kept) ≡ true
  or-large true kept lt = refl
  or-large false kept lt = rw (lt-ltb largest (length kept) lt) refl

  or-right : (a b : Bool) → b ≡ true → (a || b) ≡ true
  or-right true b e = refl
  or-right false b e = e

  or-end : (e : Bool) (kept : List ℕ) (n : ℕ) → head_end false Outside 0 kept ≡ Some n → (e || shows_head kept) ≡ true
  or-end e kept n h = or-right e (shows_head kept) (or-right (nat_lt largest (length kept)) (is_some (head_end false Outside 0 kept)) (ap is_some h))

  pub head-large : (head : StilHead) → new ≡ refused (fault_at FileSize 0) old → largest < length old.kept → head_end false Outside 0 (take largest old.kept) ≡ None
      → IsFirst head old new (fault_at FileSize 0)
  head-large head e large none = record {
    sound = sound;
    shown = shown-head (or-large old.ended old.kept large);
    comes = λ more follows. ap (λ (b : Bool). told_from head b old.point (old.kept ++ more)) before_head ∙ ap (told_before head old.point (old.kept ++ more)) (len-none old.kept more large none);
    stored = e;
  }

  head-as : (head : StilHead) (n : ℕ) (q : Point) (text : List ℕ) → new ≡ handed_out n q old → text ≡ take n old.kept → q ≡ moved old.point text Top Outside → IsEarly q → n ≤ length old.kept → is_shown old ≡ true
      → ((more : List ℕ) → Follows old.ended more → head_len (old.kept ++ more) ≡ Some n) → HandsOut head old new text (Head text ∷ [])
  head-as head n q text e is point early within shown len =
      hands-out head old new n q text (Head text ∷ []) e is sound shown (ap (λ (r : Point). r.given) point) early
      (λ more follows.
      ap (λ (b : Bool). told_from head b old.point (old.kept ++ more)) before_head ∙ head-told head old.point old.kept more n within (len more follows)
      ∙ ap (λ (t : List ℕ). after (Head t ∷ []) (told_from head false (moved old.point t Top Outside) (drop n old.kept ++ more))) (sym is)
      ∙ ap (λ (r : Point). after (Head text ∷ []) (told_from head false r (drop n old.kept ++ more))) (sym point))

  goes-shown : (limit n : ℕ) → limit ≤ length old.kept → (length old.kept ≤ largest → limit ≡ length old.kept) → head_end false Outside 0 (take limit old.kept) ≡ Some n → (old.ended || shows_head old.kept) ≡ true
  goes-shown limit n within all h = elim (cases_Bool (nat_lt largest (length old.kept))) [
    | inl e ↦ or-large old.ended old.kept (ltb-true largest (length old.kept) e)
    | inr e ↦ (
        let few = ltb-false largest (length old.kept) e in
        let whole : take limit old.kept ≡ old.kept = take_all limit old.kept (omega (arith, all few)) in
        or-end old.ended old.kept n (sym (ap (head_end false Outside 0) whole) ∙ h))
  ]

  -- the head's end is shown by the first bytes, or is there as the input ended
  pub head-out : (head : StilHead) (last : Bool) (n limit : ℕ) (q : Point) (text : List ℕ) → new ≡ handed_out n q old → text ≡ take n old.kept → q ≡ moved old.point text Top Outside → IsEarly q
      → limit ≤ length old.kept → limit ≤ largest → (length old.kept ≤ largest → limit ≡ length old.kept) → (last ≡ true → (old.ended ≡ true) × (length old.kept ≤ largest))
      → head_end last Outside 0 (take limit old.kept) ≡ Some n → n ≤ length (take limit old.kept) → HandsOut head old new text (Head text ∷ [])
  head-out head true n limit q text e is point early within small all closed h le =
      let c = closed refl in
      let whole : take limit old.kept ≡ old.kept = take_all limit old.kept (omega (arith, all c.1)) in
      head-as head n q text e is point early (omega (arith, ap length whole)) (shown-head (ap (λ (b : Bool). b || shows_head old.kept) c.0))
      (λ more follows. len-ends old.kept n more c.1 (subst (λ (b : Bool). Follows b more) c.0 follows) (sym (ap (head_end true Outside 0) whole) ∙ h))
  head-out head false n limit q text e is point early within small all closed h le =
      head-as head n q text e is point early (omega (arith, length-take-le limit old.kept within)) (shown-head (goes-shown limit n within all h))
      (λ more follows. len-goes old.kept limit within small n more h)

-- a slice of the buffer
pub slice-is : (old : Streaming) (buffer now text : List ℕ) (at n : ℕ) → drop at buffer ≡ old.kept → now ≡ buffer → text ≡ take (at + n - at) (drop at now) → text ≡ take n old.kept
slice-is old buffer now text at n k e is =
    let m : at + n - at ≡ n = omega arith in
    is ∙ ap (λ (i : ℕ). take i (drop at now)) m ∙ ap (λ (x : List ℕ). take n (drop at x)) e ∙ ap (take n) k

pub rest-is : (buffer now : List ℕ) (at : ℕ) → now ≡ buffer → take (length now - at) (drop at now) ≡ drop at buffer
rest-is buffer now at e = take_rest now at ∙ ap (drop at) e

-- the same of the bytes kept, where they were decided by another name
pub gaps-here : (last : Bool) (p : Point) (x kept : List ℕ) (n : ℕ) (q : Point) → x ≡ kept → ((judge : Judge) → Takes judge last p x n (map Byte (take n x)) q) → AreGaps last p kept n q
gaps-here last p x kept n q e t = subst (λ (y : List ℕ). AreGaps last p y n q) e (record { within = (t (λ r part text. None)).within; early = (t (λ r part text. None)).early; takes = t })

-- the first bytes, up to the limit
pub limit-is : (x : List ℕ) (limit : ℕ) → limit ≡ min (length x) largest → take limit x ≡ take largest x
limit-is x limit e = elim (cases_Bool (nat_lt largest (length x))) [
  | inl l ↦ (let lt = ltb-true largest (length x) l in let k : limit ≡ largest = omega arith in ap (λ (n : ℕ). take n x) k)
  | inr l ↦ (let le = ltb-false largest (length x) l in take_all limit x (omega arith) ∙ sym (take_all largest x le))
]

-- an answer that the head is too long
pub answers-large : (old new : Streaming) (answer : ReadFault) → answer ≡ faults.Fault (fault_of (fault_at FileSize 0)) → ((head : StilHead) → IsFirst head old new (fault_at FileSize 0)) → HeadAnswers old new (Err answer)
answers-large old new answer e first = subst (λ (a : ReadFault). HeadAnswers old new (Err a)) (sym e) (fault_at FileSize 0, refl, inr first)
