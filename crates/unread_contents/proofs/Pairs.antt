-- Steps that are the same but for the contents of leases have the same owner, request and uploads.
use Rattle.std.proofs.Common.{◌≡◌, ◌∙◌, ℕ, Bool, true, false, cond, List, [], ◌∷◌, Ok, Err, refl, sym, ap, subst, inl, inr}
use Rattle.spec_lib.specs.Texts.{Text}
use Rattle.store_model.specs.Catalog.{Catalog, Tenant}
use Rattle.store_model.specs.Histories.{CommandCall, FinishCall, PutBackCall, State, Step, SweepCall, SweepPartCall, TakeCall, step_amounts}
use Rattle.store_model.specs.HistoryIsolation.{Finish, IsOwnReply, Perform, Return, Take, is_step_of, requests_of, steps_of, uploads_of_step}
use Rattle.store_model.specs.Noninterference.{uploads_of_command}
use Rattle.store_model.specs.Runs as runs
use Rattle.store_model.specs.Runs.{Answer, Bytes, Command, Lease}
use Rattle.unread_contents.specs.Unread.{AgreeWhereRead, AreContentsUpTo, AreHistoriesUpTo, AreLeases, AreStepsUpTo, AreViewsUpTo, IsReadAs}
use Rattle.unread_contents.proofs.Blobs.{Blobs}
use Rattle.unread_contents.proofs.Commands.{AreAnswers, with}
use Rattle.unread_contents.proofs.Contents.{known_agree, read_itself}
use Rattle.store_model.specs.Noninterference.{TenantView}

-- the state with other blobs
abbrev pub full : State → Blobs → State
full s r = record { catalog = with s.catalog r; totals = s.totals }

-- ---- one step

-- a command with its two answers
pub answers_step : (command : Command) (a b : Answer) → AreAnswers command a b → AreStepsUpTo IsReadAs (CommandCall command (Ok a)) (CommandCall command (Ok b))
answers_step (runs.Lease r d) a b h = inr (record {
  repo = r;
  digest = d;
  one = h.0;
  other = h.1;
  first = ap (λ x. CommandCall (Lease r d) (Ok x)) h.2;
  second = ap (λ x. CommandCall (Lease r d) (Ok x)) h.3;
  contents = h.4;
})
answers_step command a b h = inl (ap (λ x. CommandCall command (Ok x)) h)

pub same_amounts : (x y : Step) → AreStepsUpTo IsReadAs x y → step_amounts x ≡ step_amounts y
same_amounts x y (inl e) = ap step_amounts e
same_amounts x y (inr l) = ap step_amounts l.first ∙ sym (ap step_amounts l.second)

pub same_owner : (ts : List Tenant) (t : ℕ) (x y : Step) → AreStepsUpTo IsReadAs x y → is_step_of ts t x ≡ is_step_of ts t y
same_owner ts t x y (inl e) = ap (is_step_of ts t) e
same_owner ts t x y (inr l) = ap (is_step_of ts t) l.first ∙ sym (ap (is_step_of ts t) l.second)

command_uploads : (C : Catalog) (r : Blobs) (command : Command) → uploads_of_command (with C r) command ≡ uploads_of_command C command
command_uploads C r (runs.Close repo n d g b) = refl
command_uploads C r command = refl

step_uploads : (C : Catalog) (r : Blobs) (x : Step) → uploads_of_step (with C r) x ≡ uploads_of_step C x
step_uploads C r (CommandCall command reply) = command_uploads C r command
step_uploads C r (SweepCall swept) = refl
step_uploads C r (SweepPartCall swept) = refl
step_uploads C r (TakeCall repo n g len reply) = refl
step_uploads C r (PutBackCall h reply) = refl
step_uploads C r (FinishCall h d reply) = refl

-- the uploads do not depend on stored blobs
pub same_uploads : (C : Catalog) (r : Blobs) (x y : Step) → AreStepsUpTo IsReadAs x y → uploads_of_step (with C r) y ≡ uploads_of_step C x
same_uploads C r x y (inl e) = ap (uploads_of_step (with C r)) (sym e) ∙ step_uploads C r x
same_uploads C r x y (inr l) = ap (uploads_of_step (with C r)) l.second ∙ sym (ap (uploads_of_step C) l.first)

own_reply : (s : State) (r : Blobs) (x : Step) → IsOwnReply s x → IsOwnReply (full s r) x
own_reply s r (CommandCall command (Ok a)) own = tt
own_reply s r (CommandCall command (Err e)) own = own
own_reply s r (SweepCall swept) own = tt
own_reply s r (SweepPartCall swept) own = tt
own_reply s r (TakeCall repo n g len (Ok h)) own = tt
own_reply s r (TakeCall repo n g len (Err e)) own = own
own_reply s r (PutBackCall h (Ok n)) own = tt
own_reply s r (PutBackCall h (Err e)) own = own
own_reply s r (FinishCall h d (Ok n)) own = tt
own_reply s r (FinishCall h d (Err e)) own = own

-- a reply that others did not cause is still one
pub same_reply : (s : State) (r : Blobs) (x y : Step) → AreStepsUpTo IsReadAs x y → IsOwnReply s x → IsOwnReply (full s r) y
same_reply s r x y (inl e) own = subst (IsOwnReply (full s r)) e (own_reply s r x own)
same_reply s r x y (inr l) own = subst (IsOwnReply (full s r)) (sym l.second) tt

-- ---- lists of steps

-- a tenant has the same steps of both
pub same_owners : (ts : List Tenant) (t : ℕ) (xs ys : List Step) → AreHistoriesUpTo IsReadAs xs ys → AreHistoriesUpTo IsReadAs (steps_of ts t xs) (steps_of ts t ys)
same_owners ts t [] [] h = tt
same_owners ts t [] (y ∷ ys) h = absurd h
same_owners ts t (x ∷ xs) [] h = absurd h
same_owners ts t (x ∷ xs) (y ∷ ys) h = by (is_step_of ts t x) (is_step_of ts t y) (same_owner ts t x y h.0) (same_owners ts t xs ys h.1)
  where
    by : (b c : Bool) → b ≡ c → AreHistoriesUpTo IsReadAs (steps_of ts t xs) (steps_of ts t ys) → AreHistoriesUpTo IsReadAs (cond b (x ∷ steps_of ts t xs) (steps_of ts t xs)) (cond c (y ∷ steps_of ts t ys) (steps_of ts t ys))
    by true true e rest = (h.0, rest)
    by true false e rest = absurd cc
    by false true e rest = absurd cc
    by false false e rest = rest

one_request : (y : Step) (xs ys : List Step) → requests_of xs ≡ requests_of ys → requests_of (y ∷ xs) ≡ requests_of (y ∷ ys)
one_request (CommandCall command reply) xs ys e = ap (λ qs. Perform command ∷ qs) e
one_request (SweepCall swept) xs ys e = e
one_request (SweepPartCall swept) xs ys e = e
one_request (TakeCall r n g len reply) xs ys e = ap (λ qs. Take r n g len ∷ qs) e
one_request (PutBackCall h reply) xs ys e = ap (λ qs. Return h ∷ qs) e
one_request (FinishCall h d reply) xs ys e = ap (λ qs. Finish h d ∷ qs) e

pub same_requests : (xs ys : List Step) → AreHistoriesUpTo IsReadAs xs ys → requests_of xs ≡ requests_of ys
same_requests [] [] h = refl
same_requests [] (y ∷ ys) h = absurd h
same_requests (x ∷ xs) [] h = absurd h
same_requests (x ∷ xs) (y ∷ ys) h = by h.0 (same_requests xs ys h.1)
  where
    by : AreStepsUpTo IsReadAs x y → requests_of xs ≡ requests_of ys → requests_of (x ∷ xs) ≡ requests_of (y ∷ ys)
    by (inl e) rest = ap (λ z. requests_of (z ∷ xs)) e ∙ one_request y xs ys rest
    by (inr l) rest = ap (λ z. requests_of (z ∷ xs)) l.first ∙ ap (λ qs. Perform (Lease l.repo l.digest) ∷ qs) rest ∙ sym (ap (λ z. requests_of (z ∷ ys)) l.second)

-- ---- two histories of which a third one has read the contents

-- two leases
both_leases : (x y z : Step) → AreLeases IsReadAs x z → AreLeases IsReadAs y z → AreStepsUpTo AgreeWhereRead x y
both_leases x y z p q =
    let same : CommandCall (Lease p.repo p.digest) (Ok (Bytes p.other)) ≡ CommandCall (Lease q.repo q.digest) (Ok (Bytes q.other)) = sym p.second ∙ q.second in
    let repos : p.repo ≡ q.repo = cc in
    let digests : p.digest ≡ q.digest = cc in
    let others : p.other ≡ q.other = cc in
    inr (record {
      repo = p.repo;
      digest = p.digest;
      one = p.one;
      other = q.one;
      first = p.first;
      second = q.first ∙ (λ i. CommandCall (Lease (sym repos i) (sym digests i)) (Ok (Bytes q.one)));
      contents = known_agree p.one q.one p.other p.contents (subst (IsReadAs q.one) (sym others) q.contents);
    })

steps_agree : (x y z : Step) → AreStepsUpTo IsReadAs x z → AreStepsUpTo IsReadAs y z → AreStepsUpTo AgreeWhereRead x y
steps_agree x y z (inl p) (inl q) = inl (p ∙ sym q)
steps_agree x y z (inl p) (inr l) = inr (record {
  repo = l.repo;
  digest = l.digest;
  one = l.other;
  other = l.one;
  first = p ∙ l.second;
  second = l.first;
  contents = known_agree l.other l.one l.other (read_itself l.other) l.contents;
})
steps_agree x y z (inr l) (inl q) = inr (record {
  repo = l.repo;
  digest = l.digest;
  one = l.one;
  other = l.other;
  first = l.first;
  second = q ∙ l.second;
  contents = known_agree l.one l.other l.other l.contents (read_itself l.other);
})
steps_agree x y z (inr p) (inr q) = both_leases x y z p q

pub histories_agree : (xs ys zs : List Step) → AreHistoriesUpTo IsReadAs xs zs → AreHistoriesUpTo IsReadAs ys zs → AreHistoriesUpTo AgreeWhereRead xs ys
histories_agree [] [] zs p q = tt
histories_agree [] (y ∷ ys) [] p q = absurd q
histories_agree [] (y ∷ ys) (z ∷ zs) p q = absurd p
histories_agree (x ∷ xs) [] [] p q = absurd p
histories_agree (x ∷ xs) [] (z ∷ zs) p q = absurd q
histories_agree (x ∷ xs) (y ∷ ys) [] p q = absurd p
histories_agree (x ∷ xs) (y ∷ ys) (z ∷ zs) p q = (steps_agree x y z p.0 q.0, histories_agree xs ys zs p.1 q.1)

contents_agree : (xs ys zs : List (Text × Text)) → AreContentsUpTo IsReadAs xs zs → AreContentsUpTo IsReadAs ys zs → AreContentsUpTo AgreeWhereRead xs ys
contents_agree [] [] zs p q = tt
contents_agree [] (y ∷ ys) [] p q = absurd q
contents_agree [] (y ∷ ys) (z ∷ zs) p q = absurd p
contents_agree (x ∷ xs) [] [] p q = absurd p
contents_agree (x ∷ xs) [] (z ∷ zs) p q = absurd q
contents_agree (x ∷ xs) (y ∷ ys) [] p q = absurd p
contents_agree (x ∷ xs) (y ∷ ys) (z ∷ zs) p q = (p.0 ∙ sym q.0, known_agree x.1 y.1 z.1 p.1 q.1, contents_agree xs ys zs p.2 q.2)

pub views_agree : (u v w : TenantView) → AreViewsUpTo IsReadAs u w → AreViewsUpTo IsReadAs v w → AreViewsUpTo AgreeWhereRead u v
views_agree u v w p q = record {
  blobs = contents_agree u.blobs v.blobs w.blobs p.blobs q.blobs;
  rest = ap (λ (x : TenantView). record x { blobs = v.blobs }) (sym q.rest ∙ p.rest);
}
