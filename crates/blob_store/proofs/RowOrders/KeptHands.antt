-- Every step of a history keeps the invariant of hands: the catalog is sound, and the session of each hand is checked out.
use Rattle.std.proofs.Common.{true, ◌≡◌, ◌≢◌, ℕ, false, List, [], ◌∷◌, length, Option, Some, None, Result, Ok, Err, refl, sym, ap, ◌∙◌, subst, inl, inr, arith}
use Rattle.std.specs.List.{AllByRecursion}
use Rattle.std.specs.FinMap.{empty, get, get-empty, insert, remove}
use Rattle.std.proofs.lemmas.Bool.{false≢true}
use Rattle.blob_digest.specs.declared.range.ByteRange.{ByteRange}
use Rattle.blob_digest.specs.declared.refusal.Refusal.{Refusal}
use Rattle.blob_digest.proofs.KeyOrders.{number_cmp_total, exact_number}
use Rattle.spec_lib.specs.Texts.{Text}
use Rattle.spec_lib.proofs.Maps.{cases_key, get-insert_at, get-insert_other, get-remove_other}
use Rattle.spec_lib.proofs.Sums.{get-remove_same}
use Rattle.store_model.specs.Catalog.{Catalog, CheckedIn, CheckedOutWith, SessionNumber, Session, HandRecord, session_number_cmp, received_length}
use Rattle.store_model.specs.Commands.{after_cancel, finish, put_back, take}
use Rattle.store_model.specs.Histories.{FinishCall, MayLeadTo, CommandCall, PutBackCall, State, Step, TakeCall, SweepCall, SweepPartCall}
use Rattle.store_model.specs.Invariant.{Sound}
use Rattle.store_model.specs.Runs.{Event, HasShortName}
use Rattle.store_model.specs.Sessions.{are_checked_in, at_home, with_old_chunks, chunks_of, session_of_hand, with_chunks}
use Rattle.store_model.specs.WholeCommands.{CorrespondsTo, CheckedOutSessions, CheckedOut}
use Rattle.store_model.proofs.Commands.ByHand.{taken_hand, taken_leaves}
use Rattle.store_model.proofs.Commands.Finish.{Sound-after_finish}
use Rattle.store_model.proofs.Commands.Hands.{IsProper, Sound-after_put_back, Sound-after_take, Sound-home, TookIn, took}
use Rattle.store_model.proofs.Commands.Runs.{Sound-case}
use Rattle.store_model.proofs.Commands.Sweep.{Sound-sweep}
use Rattle.store_model.proofs.Noninterference.Hands.{cancel_leaves, finish_leaves, put_back_leaves}
use Rattle.store_model.proofs.Noninterference.LocalRespect.{Leaves}
use Rattle.locked_book.specs.History.{filled_hand}
use Rattle.blob_store.proofs.RowOrders.CheckedOutSessions.{stays_in_hand}

-- the session of a hand is checked out, and no chunk of it is empty
pub record IsHeld (C : Catalog) (k : SessionNumber) (out : CheckedOut) : Type 0 where
  pub session : Session
  pub found : get C.sessions k ≡ Some session
  pub in_hand : are_checked_in session.chunks ≡ false
  pub pieces : AllByRecursion (λ c. c ≢ []) out.hand.chunks

pub record KeepsHands (hands : CheckedOutSessions) (C : Catalog) : Type 0 where
  pub sound : Sound C
  pub held : (k : SessionNumber) (out : CheckedOut) → get hands k ≡ Some out → IsHeld C k out

-- ---- check-outs

module _ (hands : CheckedOutSessions) (C X : Catalog) (kept : KeepsHands hands C) (r : Text) (n len : ℕ) (g : Option ByteRange) (h : HandRecord) (stepped : take C r n g len ≡ Ok (h, X)) where
  abbrev p : TookIn C X r n len g h stepped
  p = took C X r n len g h stepped

  abbrev key : SessionNumber
  key = (p.t, n)

  abbrev hand : HandRecord
  hand = record { repo = p.checked.s.repo; key = key; chunks = p.checked.chunks; reserved = len; last = None }

  hand_is : hand ≡ h
  hand_is = taken_hand C X r n len g h stepped

  pub its_number : h.key.1 ≡ n
  its_number = ap (λ (x : HandRecord). x.key.1) (sym hand_is)

  pub its_reserve : h.reserved ≡ len
  its_reserve = ap (λ (x : HandRecord). x.reserved) (sym hand_is)

  -- no hand of its session was out
  pub was_free : get hands h.key ≡ None
  was_free = subst (λ (x : HandRecord). get hands x.key ≡ None) hand_is (by (get hands key) refl)
    where
      by : (o : Option CheckedOut) → get hands key ≡ o → get hands key ≡ None
      by None is = is
      by (Some out) is =
          let there = kept.held key out is in
          let same : there.session ≡ p.checked.s = (let both : Some there.session ≡ Some p.checked.s = sym there.found ∙ p.checked.found in cc) in
          absurd (false≢true (sym there.in_hand ∙ ap (λ (x : Session). are_checked_in x.chunks) same ∙ ap are_checked_in p.checked.home))

  pub kept_take : KeepsHands (insert hands h.key (record { hand = h; repo = r; range = g })) X
  kept_take = record { sound = Sound-after_take C X r n len g h stepped kept.sound; held = λ q out is. each q out is }
    where
      left : get X.sessions ≡ get (with_chunks C.sessions key p.checked.s (CheckedOutWith (received_length p.checked.s) len))
      left = ap (λ (Y : Catalog). get Y.sessions) (sym (taken_leaves C X r n len g h stepped))

      new : (out : CheckedOut) → get (insert hands h.key (record { hand = h; repo = r; range = g })) key ≡ Some out → IsHeld X key out
      new out is =
          let lent : CheckedOut = record { hand = h; repo = r; range = g } in
          let at : get (insert hands h.key lent) key ≡ Some lent = subst (λ (x : HandRecord). get (insert hands x.key lent) key ≡ Some lent) hand_is (get-insert_at number_cmp_total exact_number hands key lent) in
          let same : lent ≡ out = (let both : Some lent ≡ Some out = sym at ∙ is in cc) in
          record {
            session = record p.checked.s { chunks = CheckedOutWith (received_length p.checked.s) len };
            found = ap (λ f. f key) left ∙ get-insert_at number_cmp_total exact_number C.sessions key _;
            in_hand = refl;
            pieces = subst (λ (x : CheckedOut). AllByRecursion (λ c. c ≢ []) x.hand.chunks) same (subst (λ (x : HandRecord). AllByRecursion (λ c. c ≢ []) x.chunks) hand_is
                (subst (λ cs. AllByRecursion (λ c. c ≢ []) cs) (ap at_home p.checked.home) (kept.sound.lawful.sessions key p.checked.s p.checked.found).chunks));
          }

      each : (q : SessionNumber) (out : CheckedOut) → get (insert hands h.key (record { hand = h; repo = r; range = g })) q ≡ Some out → IsHeld X q out
      each q out is = elim (cases_key number_cmp_total exact_number q key) [
        | inl e ↦ subst (λ (x : SessionNumber). IsHeld X x out) (sym e) (new out (ap (get (insert hands h.key (record { hand = h; repo = r; range = g }))) (sym e) ∙ is))
        | inr other ↦
            let away : q ≢ h.key = subst (λ (x : HandRecord). q ≢ x.key) hand_is other in
            let was = kept.held q out (sym (get-insert_other number_cmp_total exact_number hands h.key _ q away) ∙ is) in
            record { session = was.session; found = ap (λ f. f q) left ∙ get-insert_other number_cmp_total exact_number C.sessions key _ q other ∙ was.found; in_hand = was.in_hand; pieces = was.pieces }
      ]

-- ---- hands that return

-- other sessions than that of a key are unchanged
abbrev SameElsewhere : SessionNumber → Catalog → Catalog → Type 0
SameElsewhere k C X = (q : SessionNumber) → q ≢ k → get X.sessions q ≡ get C.sessions q

module _ (C : Catalog) (h : HandRecord) where
  with_other : (s : Session) (chunks : List Text) → SameElsewhere h.key C (record C { sessions = with_chunks C.sessions h.key s (CheckedIn chunks) })
  with_other s chunks q other = get-insert_other number_cmp_total exact_number C.sessions h.key _ q other

  back_elsewhere : (X : Catalog) (n : ℕ) → put_back C h ≡ Ok (n, X) → SameElsewhere h.key C X
  back_elsewhere X n is = subst (λ o. Leaves (SameElsewhere h.key C) o) is (put_back_leaves (SameElsewhere h.key C) C h (λ s _. with_other s (chunks_of h)))

  finished_elsewhere : (X : Catalog) (n : ℕ) (d : Text) → finish C h d ≡ Ok (n, X) → SameElsewhere h.key C X
  finished_elsewhere X n d is = subst (λ o. Leaves (SameElsewhere h.key C) o) is (finish_leaves (SameElsewhere h.key C) C h d (λ s _ _ q other. get-remove_other number_cmp_total exact_number C.sessions h.key q other))

  cancelled_elsewhere : SameElsewhere h.key C (after_cancel C h)
  cancelled_elsewhere = cancel_leaves (SameElsewhere h.key C) C h (λ q other. refl) (λ s _. with_other s h.chunks)

  module _ (proper : IsProper h) (sound : Sound C) where
    sound_cancelled : Sound (after_cancel C h)
    sound_cancelled = by (session_of_hand (get C.sessions h.key) h) refl
      where
        by : (x : Result Session Refusal) → session_of_hand (get C.sessions h.key) h ≡ x → Sound (record C { sessions = with_old_chunks C.sessions h x })
        by (Ok s) is = Sound-home C h proper s is h.chunks proper.pieces (omega arith) sound
        by (Err e) is = sound

module _ (hands : CheckedOutSessions) (C X : Catalog) (k : SessionNumber) (kept : KeepsHands hands C) where
  left_elsewhere : Sound X → SameElsewhere k C X → KeepsHands (remove hands k) X
  left_elsewhere sound same = record {
    sound = sound;
    held = λ q out is. elim (cases_key number_cmp_total exact_number q k) [
      | inl e ↦ absurd (let none : None ≡ Some out = sym (get-remove_same number_cmp_total exact_number hands k) ∙ ap (get (remove hands k)) (sym e) ∙ is in cc)
      | inr other ↦
          let was = kept.held q out (sym (get-remove_other number_cmp_total exact_number hands k q other) ∙ is) in
          record { session = was.session; found = same q other ∙ was.found; in_hand = was.in_hand; pieces = was.pieces }
    ];
  }

module _ (hands : CheckedOutSessions) (s : State) (X : Catalog) (kept : KeepsHands hands s.catalog) (h : HandRecord) (out : CheckedOut) (is_out : get hands h.key ≡ Some out) (bytes : Text) (fills : length bytes ≡ out.hand.reserved) (is : h ≡ filled_hand out.hand bytes) where
  proper : IsProper h
  proper = subst (λ (x : HandRecord). IsProper x) (sym is) (record { pieces = (kept.held h.key out is_out).pieces; last = fills })

  full : h.last ≡ None → h.reserved ≡ 0
  full none = absurd (let some : Some bytes ≡ None = ap (λ (x : HandRecord). x.last) (sym is) ∙ none in cc)

  pub kept_back : (reply : Result ℕ Refusal) → MayLeadTo s (PutBackCall h reply) X → KeepsHands (remove hands h.key) X
  kept_back (Ok n) leaves = left_elsewhere hands s.catalog X h.key kept (Sound-after_put_back s.catalog X h n proper leaves kept.sound) (back_elsewhere s.catalog h X n leaves)
  kept_back (Err e) leaves = left_elsewhere hands s.catalog X h.key kept (subst (λ (Y : Catalog). Sound Y) (sym leaves.1) kept.sound) (λ q other. ap (λ (Y : Catalog). get Y.sessions q) leaves.1)

  pub kept_finish : (d : Text) (reply : Result ℕ Refusal) → MayLeadTo s (FinishCall h d reply) X → KeepsHands (remove hands h.key) X
  kept_finish d (Ok n) leaves = left_elsewhere hands s.catalog X h.key kept (Sound-after_finish s.catalog X h d n proper full leaves kept.sound) (finished_elsewhere s.catalog h X n d leaves)
  kept_finish d (Err e) leaves = left_elsewhere hands s.catalog X h.key kept (subst (λ (Y : Catalog). Sound Y) (sym leaves.1) (sound_cancelled s.catalog h proper kept.sound))
      (λ q other. ap (λ (Y : Catalog). get Y.sessions q) leaves.1 ∙ cancelled_elsewhere s.catalog h q other)

-- ---- steps that are events

module _ (hands : CheckedOutSessions) (C X : Catalog) (kept : KeepsHands hands C) where
  same_sessions : Sound X → X.sessions ≡ C.sessions → KeepsHands hands X
  same_sessions sound same = record { sound = sound; held = λ q out is. (let was = kept.held q out is in record { session = was.session; found = ap (λ m. get m q) same ∙ was.found; in_hand = was.in_hand; pieces = was.pieces }) }

  same_catalog : X ≡ C → KeepsHands hands X
  same_catalog same = subst (λ (Y : Catalog). KeepsHands hands Y) (sym same) kept

-- a step that is an event by itself keeps the invariant of the hands
pub kept_whole : (hands : CheckedOutSessions) (s : State) (X : Catalog) → KeepsHands hands s.catalog → (step : Step) (e : Event) → ((hs : CheckedOutSessions) → CorrespondsTo hs step (e ∷ []) hs) → HasShortName e → MayLeadTo s step X → KeepsHands hands X
kept_whole hands s X kept (CommandCall command (Ok a)) e comes named leaves = record {
  sound = Sound-case s.catalog X command (Ok a) (subst (λ (es : List Event). AllByRecursion HasShortName es) (comes hands).0 (named, tt)).0 leaves kept.sound;
  held = λ q out is. (let was = kept.held q out is in
      record { session = was.session; found = stays_in_hand s.catalog kept.sound.lawful q was.session was.found was.in_hand X command a leaves; in_hand = was.in_hand; pieces = was.pieces });
}
kept_whole hands s X kept (CommandCall command (Err e)) f comes named leaves = same_catalog hands s.catalog X kept (elim leaves [ inl x ↦ x.1 | inr x ↦ x.1 ])
kept_whole hands s X kept (SweepCall swept) e comes named leaves = same_sessions hands s.catalog X kept (Sound-sweep (λ _. true) s.catalog X swept leaves kept.sound.lawful kept.sound.quotas kept.sound.shares kept.sound.slots) (ap (λ (Y : Catalog). Y.sessions) leaves.rest)
kept_whole hands s X kept (SweepPartCall swept) e comes named leaves = same_sessions hands s.catalog X kept (Sound-sweep leaves.0 s.catalog X swept leaves.1 kept.sound.lawful kept.sound.quotas kept.sound.shares kept.sound.slots) (ap (λ (Y : Catalog). Y.sessions) leaves.1.rest)
kept_whole hands s X kept (TakeCall r n g len (Ok h)) e comes named leaves = absurd (let none = (comes hands).0 in cc)
kept_whole hands s X kept (TakeCall r n g len (Err f)) e comes named leaves = same_catalog hands s.catalog X kept leaves.1
kept_whole hands s X kept (PutBackCall h reply) e comes named leaves = absurd (let c = comes empty in let none : None ≡ Some c.0 = sym (get-empty session_number_cmp h.key) ∙ c.1 in cc)
kept_whole hands s X kept (FinishCall h d reply) e comes named leaves = absurd (let c = comes empty in let none : None ≡ Some c.0 = sym (get-empty session_number_cmp h.key) ∙ c.1 in cc)
