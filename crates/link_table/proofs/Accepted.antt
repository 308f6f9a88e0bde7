-- The state after accepted calls.
use Rattle.std.proofs.Common.{◌≡◌, ℕ, List, Bool, true, false, cond, not, Option, Some, None, is_some, Result, Ok, Err, sym, ap, ◌∙◌}
use Rattle.std.specs.Ordering.{eq_by_cmp, is_eq}
use Rattle.std.specs.Cmp.{tied_itself}
use Rattle.std.specs.Cmp.Lexicographic.{nat_list_cmp_total}
use Rattle.std.specs.FinMap.{FinMap, get, insert, empty, get-insert, get-remove, get-empty}
use Rattle.spec_lib.specs.Sets as set
use Rattle.spec_lib.specs.Texts.{Text}
use Rattle.blob_digest.specs.Keys.{Link, link_cmp}
use Rattle.blob_digest.specs.declared.refusal.Refusal.{Refusal}
use Rattle.blob_digest.specs.declared.refusal.Refusal.TheVariants.{LimitReached}
use Rattle.blob_digest.proofs.KeyOrders.{link_cmp_total}
use Rattle.link_table.specs.Linked.{Linked, Tenant, is_repo_of_tenant, HasNoLinks, appear, cannot_appear, link, unlink}
use Rattle.link_table.specs.Tenancy.{Opens}

same_state : {S : Type 0} (a b : Bool) (x y : S) → ◌≡◌ {A = Result (Bool × S) Refusal} (Ok (a, x)) (Ok (b, y)) → y ≡ x
same_state {S = S} a b x y e = (let p : ◌≡◌ {A = Bool × S} (a, x) (b, y) = cc in λ i. (sym p i).1)

module _ (l m : Linked) (t : ℕ) (repo : Text) (b : Bool) (done : appear l t repo ≡ Ok (b, m)) where
  -- an accepted `appear` leaves one repository more
  pub appeared : m ≡ record l { repos = set.insert l.repos repo }
  appeared = by_cases (cannot_appear l t repo) done
    where
      by_cases : (full : Bool) → ◌≡◌ {A = Result (Bool × Linked) Refusal} (cond full (Err LimitReached) (Ok (not (set.contains l.repos repo), record l { repos = set.insert l.repos repo }))) (Ok (b, m)) → m ≡ record l { repos = set.insert l.repos repo }
      by_cases true e = cc
      by_cases false e = same_state (not (set.contains l.repos repo)) b (record l { repos = set.insert l.repos repo }) m e

  pub appear-contains : set.contains m.repos repo ≡ true
  appear-contains =
      ap (λ (x : Linked). set.contains x.repos repo) appeared
      ∙ ap is_some (get-insert nat_list_cmp_total l.repos repo (tt {0}) repo ∙ ap (λ r. cond (is_eq r) (Some tt) (get l.repos repo)) (tied_itself nat_list_cmp_total repo))

  -- tenants and links stay
  pub appear-tenants : m.tenants ≡ l.tenants
  appear-tenants = ap (λ (x : Linked). x.tenants) appeared

  pub appear-own : is_repo_of_tenant l.tenants t repo ≡ true → is_repo_of_tenant m.tenants t repo ≡ true
  appear-own own = ap (λ (x : Linked). is_repo_of_tenant x.tenants t repo) appeared ∙ own

  pub appear-links : m.links ≡ l.links
  appear-links = ap (λ (x : Linked). x.links) appeared

sized : (b : Bool) (n x : ℕ) (o : Option ℕ) → cond b (Some n) o ≡ Some x → (o ≡ Some x → x ≡ n) → x ≡ n
sized true n x o e old = cc
sized false n x o e old = old e

-- if each link had this size, each has it after an accepted `link` of this size
pub link-sizes : (l m : Linked) (r d : Text) (n : ℕ) (b : Bool) → link l r d n ≡ Ok (b, m) → ((k : Link) (x : ℕ) → get l.links k ≡ Some x → x ≡ n) → (k : Link) (x : ℕ) → get m.links k ≡ Some x → x ≡ n
link-sizes l m r d n b done all k x h =
    let state = same_state _ b (record l { links = insert l.links (r, d) n }) m done in
    sized (eq_by_cmp link_cmp k (r, d)) n x (get l.links k) (sym (get-insert link_cmp_total l.links (r, d) n k) ∙ sym (ap (λ (y : Linked). get y.links k) state) ∙ h) (all k x)

left_over : (b : Bool) (n : ℕ) (o : Option ℕ) → cond b None o ≡ Some n → o ≡ Some n
left_over true n o e = cc
left_over false n o e = e

-- each link after `unlink` was there before
pub unlink-links : (l m : Linked) (r d : Text) → m ≡ unlink l r d → (k : Link) (n : ℕ) → get m.links k ≡ Some n → get l.links k ≡ Some n
unlink-links l m r d is k n h = left_over (eq_by_cmp link_cmp k (r, d)) n (get l.links k) (sym (get-remove link_cmp_total l.links (r, d) k) ∙ sym (ap (λ (x : Linked). get x.links k) is) ∙ h)

-- a new table has no links
pub Opens-links : (given : List Tenant) (l : Linked) → Opens given l → l.links ≡ empty
Opens-links given l opens = ap (λ (x : Linked). x.links) opens.empty

pub no_sizes : (links : FinMap link_cmp ℕ) (n : ℕ) → links ≡ empty → (k : Link) (x : ℕ) → get links k ≡ Some x → x ≡ n
no_sizes links n none k x h = (let wrong : None ≡ Some x = sym (get-empty link_cmp k) ∙ sym (ap (λ m. get m k) none) ∙ h in cc)

pub empty-HasNoLinks : (links : FinMap link_cmp ℕ) (r : Text) → links ≡ empty → HasNoLinks links r
empty-HasNoLinks links r none d = ap (λ m. get m (r, d)) none ∙ get-empty link_cmp (r, d)
