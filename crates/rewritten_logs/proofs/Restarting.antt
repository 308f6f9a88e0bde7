-- What a start restores whose log was rewritten.
use Rattle.std.proofs.Common.{◌≡◌, ◌∙◌, ℕ, List, [], ◌∷◌, ◌++◌, Option, Some, None, ap, refl, sym, subst, length}
use Rattle.std.specs.Prelude.{fold, map, take}
use Rattle.std.specs.FinMap as fmap
use Rattle.std.specs.List.{AllByRecursion}
use Rattle.std.specs.Option.{option_map}
use Rattle.std.specs.Cmp.Lexicographic.{nat_list_cmp_total}
use Rattle.std.proofs.Math.Seq.{take-append_seam}
use Rattle.std.proofs.lemmas.Grind.{fold-append}
use Rattle.content_files.specs.Chunks.{noted, read_notes}
use Rattle.ghost_log.specs.declared.view.Entry.{Entry}
use Rattle.log_records.specs.Changes as logged
use Rattle.log_records.specs.Laws.{AreChangesIn}
use Rattle.log_records.specs.Records.{records_bytes}
use Rattle.log_records.proofs.Cuts.{one_way, read_back}
use Rattle.log_records.proofs.Nexts.{nothing-no_record}
use Rattle.log_state.specs.LoggedStates.{LoggedState, after_logged, initial_logged, state_after}
use Rattle.log_state.specs.Sessions.{OpenSession}
use Rattle.noted_logs.specs.Noted.{AreNotedContents, IsNoted, noted_chunks, noted_session}
use Rattle.noted_logs.proofs.Noting.{notes_determine}
use Rattle.noted_logs.proofs.ReadBack.{chunks_are_read_back}
use Rattle.locked_book.specs.CutLogs.{RestoresFirstSteps, changes_in, logged_in}
use Rattle.locked_book.specs.Described.{IsLogged}
use Rattle.locked_book.specs.History.{steps_of}
use Rattle.locked_book.specs.Names.{StoreNames}
use Rattle.locked_book.specs.Restoring.{logged_changes}
use Rattle.locked_book.proofs.CutLogs.{cut_logs_restore}
use Rattle.locked_book.proofs.Fitting.{Describes, all_fit, history_described}
use Rattle.rewritten_logs.specs.Linked.{HaveSameLinkedNotes, IsNotedWhereLinked}
use Rattle.rewritten_logs.specs.Rewritten.{Replaced, RewrittenLogsRestart, IsReplacedBy, Written, names_in}
use Rattle.rewritten_logs.proofs.Aligned.{AreLogsOf, all_first, all_later, read_behind, read_both, split_logged, steps_logged, take_logged}
use Rattle.rewritten_logs.proofs.Links.{LinksKept, history_kept}
use Rattle.rewritten_logs.proofs.Notes.{all_noted_alike, get_mapped, mapped}
use Rattle.rewritten_logs.proofs.Representing.{IsLoggedContent, IsLoggedSession, Represents, represents_all, represents_new, represents_same}
use Rattle.spec_lib.specs.Texts.{Text}
use Rattle.store_model.specs.Catalog.{CheckedIn, Session, Tenant}
use Rattle.store_model.specs.Durable.{Agrees, Change, DurableState, after_change, after_changes, changes_of, initial_durable, taken_after_steps}
use Rattle.store_model.specs.Histories.{Step}

-- ---- two states that one represents

content_noted : (n : Option (List ℕ)) (c : Option Text) → IsLoggedContent n c → AreNotedContents c (option_map read_notes n)
content_noted None None is = tt
content_noted None (Some c) is = absurd is
content_noted (Some n) None is = absurd is
content_noted (Some n) (Some c) is = (is.chunks, is.whole, sym (chunks_are_read_back is.chunks) ∙ ap read_notes is.notes_are)

session_alike : (s t : Session) (cs ds : List Text) → s.repo ≡ t.repo → s.chunks ≡ CheckedIn cs → t.chunks ≡ CheckedIn ds → map noted cs ≡ map noted ds → noted_session s ≡ noted_session t
session_alike s t cs ds repo mine others same = λ i. record { repo = repo i; chunks = chunks i }
  where
    chunks : (noted_session s).chunks ≡ (noted_session t).chunks
    chunks = ap noted_chunks mine ∙ ap CheckedIn same ∙ sym (ap noted_chunks others)

sessions_alike : (o : Option OpenSession) (s t : Option Session) → IsLoggedSession o s → IsLoggedSession o t → option_map noted_session s ≡ option_map noted_session t
sessions_alike None None None is too = refl
sessions_alike None None (Some t) is too = absurd too
sessions_alike None (Some s) t is too = absurd is
sessions_alike (Some o) None t is too = absurd is
sessions_alike (Some o) (Some s) None is too = absurd too
sessions_alike (Some o) (Some s) (Some t) is too =
    ap (λ x. Some x) (session_alike s t is.1 too.1 (sym is.0 ∙ too.0) is.2 too.2 (all_noted_alike o.chunks is.1 too.1 is.3 too.3))

-- a state with the notes that a log leaves is that of each state which it represents
is_noted_where_linked : (tenants : List Tenant) (S : LoggedState) (D E N : DurableState) → Represents tenants S D → Represents tenants S E → IsNoted D N →
    IsNotedWhereLinked E (record N { contents = mapped read_notes S.contents })
is_noted_where_linked tenants S D E N r q is = record {
  tenants = is.tenants ∙ r.tenants_are ∙ sym q.tenants_are;
  repos = is.repos ∙ sym r.repos ∙ q.repos;
  links = is.links ∙ sym r.links ∙ q.links;
  manifests = is.manifests ∙ sym r.manifests ∙ q.manifests;
  next = is.next ∙ sym r.next ∙ q.next;
  sessions = λ key. is.sessions key ∙ sessions_alike (fmap.get S.sessions key) (fmap.get D.sessions key) (fmap.get E.sessions key) (r.sessions key) (q.sessions key);
  contents = λ l linked. subst (AreNotedContents (fmap.get E.contents l.1)) (sym (get_mapped nat_list_cmp_total read_notes S.contents l.1))
      (content_noted (fmap.get S.contents l.1) (fmap.get E.contents l.1) (q.contents l linked));
}

represented_alike : (tenants : List Tenant) (S : LoggedState) (cs ds : List Change) →
    Represents tenants S (after_changes (initial_durable tenants) cs) → Represents tenants S (after_changes (initial_durable tenants) ds) →
    HaveSameLinkedNotes (after_changes (initial_durable tenants) ds) (after_changes (initial_durable tenants) cs)
represented_alike tenants S cs ds r q =
    let D = after_changes (initial_durable tenants) cs in
    let N = notes_determine tenants cs cs refl in (
      record (N.0) { contents = mapped read_notes S.contents },
      is_noted_where_linked tenants S D (after_changes (initial_durable tenants) ds) N.0 r q N.1,
      is_noted_where_linked tenants S D D N.0 r r N.1,
    )

-- ---- files in place of what was written

kept_first : (cs ds : List Change) (D : DurableState) → LinksKept D (cs ++ ds) → LinksKept D cs × LinksKept (after_changes D cs) ds
kept_first [] ds D kept = (tt, kept)
kept_first (c ∷ cs) ds D kept = let k = kept_first cs ds (after_change D c) kept.1 in ((kept.0, k.0), k.1)

-- The written bytes and the files are whole records. The state that the files leave represents the durable state after the changes that the written
-- records describe.
record Replacement (tenants : List Tenant) (written files : List ℕ) : Type 0 where
  records : List logged.Change
  changes : List logged.Change
  reads : AreChangesIn written records []
  reads_files : AreChangesIn files changes []
  represents : (cs : List Change) → AreLogsOf tenants records cs → AllByRecursion (Describes tenants) cs → LinksKept (initial_durable tenants) cs →
      Represents tenants (state_after (names_in tenants) changes) (after_changes (initial_durable tenants) cs)

-- the changes of a part that is represented, and those behind it
represents_more : (tenants : List Tenant) (ls rs ms : List logged.Change) (cs : List Change) → AreLogsOf tenants (ls ++ ms) cs → AllByRecursion (Describes tenants) cs → LinksKept (initial_durable tenants) cs →
    ((xs : List Change) → AreLogsOf tenants ls xs → AllByRecursion (Describes tenants) xs → LinksKept (initial_durable tenants) xs →
    Represents tenants (state_after (names_in tenants) rs) (after_changes (initial_durable tenants) xs)) →
    Represents tenants (state_after (names_in tenants) (rs ++ ms)) (after_changes (initial_durable tenants) cs)
represents_more tenants ls rs ms cs are all kept front =
    let s = split_logged tenants ls ms cs are in
    let all' = subst (AllByRecursion (Describes tenants)) s.both all in
    let kept' = kept_first s.first s.later (initial_durable tenants) (subst (LinksKept (initial_durable tenants)) s.both kept) in
    let r = front s.first s.logs (all_first (Describes tenants) s.first s.later all') kept'.0 in
    let more = represents_all tenants ms s.later (state_after (names_in tenants) rs) (after_changes (initial_durable tenants) s.first) s.later_logs (all_later (Describes tenants) s.first s.later all') kept'.1 r in
    subst (λ S. Represents tenants S (after_changes (initial_durable tenants) cs)) (sym (fold-append (after_logged (names_in tenants)) (initial_logged (names_in tenants)) rs ms))
    (subst (λ D. Represents tenants (fold (after_logged (names_in tenants)) (state_after (names_in tenants) rs) ms) D)
    (sym (fold-append after_change (initial_durable tenants) s.first s.later) ∙ ap (after_changes (initial_durable tenants)) (sym s.both)) more)

whole_reading : (bytes : List ℕ) (cs : List logged.Change) → AllByRecursion logged.IsChange cs → bytes ≡ records_bytes cs ++ [] → AreChangesIn bytes cs []
whole_reading bytes cs fit whole = record { fit = fit; whole = whole; longest = nothing-no_record }

replacement : (tenants : List Tenant) (written files : List ℕ) → IsReplacedBy (names_in tenants) written files → Replacement tenants written files
replacement tenants written files (Written bytes changes read) = record {
  records = changes;
  changes = changes;
  reads = read;
  reads_files = read;
  represents = λ cs are all kept. represents_all tenants changes cs (initial_logged (names_in tenants)) (initial_durable tenants) are all kept (represents_new tenants);
}
replacement tenants written base (Replaced front files more base' before same) =
    let b = replacement tenants front files before in
    let mine = same.left_by in
    let theirs = same.left_by_others in
    let whole = whole_reading (files ++ more) mine.changes mine.fit mine.whole in
    let back = read_behind files more [] b.changes mine.changes b.reads_files whole in
    record {
      records = b.records ++ back.more;
      changes = theirs.changes;
      reads = read_both front more [] b.records back.more b.reads back.read;
      reads_files = whole_reading base' theirs.changes theirs.fit theirs.whole;
      represents = λ cs are all kept.
          let D = after_changes (initial_durable tenants) cs in
          let r : Represents tenants (state_after (names_in tenants) (b.changes ++ back.more)) D = represents_more tenants b.records b.changes back.more cs are all kept b.represents in
          let r' : Represents tenants same.state D = subst (λ S. Represents tenants S D) (ap (state_after (names_in tenants)) (sym back.both) ∙ sym mine.state) r in
          subst (λ S. Represents tenants S D) theirs.state (represents_same tenants same.state same.other D same.same r');
    }

-- ---- restarts

-- the changes that a store kept are those that its first records describe
kept_logged : (names : StoreNames) (history : List (Entry Step)) (bytes : List ℕ) (k : RestoresFirstSteps names history bytes) → AllByRecursion (IsLogged names.longest names.setting.tenants) (steps_of history) →
    AreLogsOf names.setting.tenants (take (length k.kept) (logged_in names history)) k.kept
kept_logged names history bytes k all =
    let n = length k.kept in
    let tenants = names.setting.tenants in
    subst (AreLogsOf tenants (take n (logged_in names history))) (ap (take n) k.split ∙ take-append_seam k.kept k.lost)
    (take_logged tenants n (logged_in names history) (changes_in names history) (steps_logged names.longest tenants (steps_of history) all))

pub rewritten_logs_restart : RewrittenLogsRestart
rewritten_logs_restart names history s other replayed t written base rest restores again some too same_tenants replaced of is =
    let tenants = names.setting.tenants in
    let first = cut_logs_restore names history s (written ++ rest) restores some of in
    let st = replacement tenants written base replaced in
    let D = initial_durable tenants in
    let ds = changes_of tenants (steps_of replayed) in
    let theirs = logged_changes other.longest (steps_of replayed) in
    let described_all : AllByRecursion (Describes tenants) ds = subst (λ ts. AllByRecursion (Describes ts) (changes_of ts (steps_of replayed))) same_tenants (history_described other replayed t again) in
    let each_theirs : AllByRecursion (IsLogged other.longest tenants) (steps_of replayed) = subst (λ ts. AllByRecursion (IsLogged other.longest ts) (steps_of replayed)) same_tenants again.describes in
    let bytes : base ++ rest ≡ records_bytes theirs = sym is ∙ again.records too in
    let whole : AreChangesIn (base ++ rest) theirs [] = subst (λ (b : List ℕ). AreChangesIn b theirs []) (sym bytes) (read_back theirs (all_fit other.longest tenants (steps_of replayed) each_theirs described_all)) in
    let behind = read_behind base rest [] st.changes theirs st.reads_files whole in
    let kept_theirs : LinksKept D ds = subst (λ ts. LinksKept (initial_durable ts) (changes_of ts (steps_of replayed))) same_tenants (history_kept other replayed t again) in
    let S = state_after (names_in tenants) theirs in
    let r_theirs : Represents tenants S (after_changes D ds) =
    represents_all tenants theirs ds _ D (steps_logged other.longest tenants (steps_of replayed) each_theirs) described_all kept_theirs (represents_new tenants) in
    let mine = take (length first.kept) (logged_in names history) in
    let front = read_behind written rest first.rest st.records mine st.reads first.read in
    let same_rest = one_way rest front.more behind.more first.rest [] front.read behind.read in
    let all_mine : AllByRecursion (Describes tenants) (first.kept ++ first.lost) = subst (AllByRecursion (Describes tenants)) first.split (history_described names history s restores) in
    let links_mine : LinksKept D (first.kept ++ first.lost) = subst (LinksKept D) first.split (history_kept names history s restores) in
    let logs_mine : AreLogsOf tenants (st.records ++ front.more) first.kept = subst (λ ls. AreLogsOf tenants ls first.kept) front.both (kept_logged names history (written ++ rest) first restores.describes) in
    let r_mine = represents_more tenants st.records st.changes front.more first.kept logs_mine (all_first (Describes tenants) first.kept first.lost all_mine) (kept_first first.kept first.lost D links_mine).0 st.represents in
    let r_mine' : Represents tenants S (after_changes D first.kept) =
    subst (λ ls. Represents tenants (state_after (names_in tenants) ls) (after_changes D first.kept)) (ap (λ ms. st.changes ++ ms) same_rest.0 ∙ sym behind.both) r_mine in
    record {
      restores = first;
      agrees = (
        after_changes D ds,
        represented_alike tenants S first.kept ds r_mine' r_theirs,
        subst (λ ts. Agrees (taken_after_steps fmap.empty (steps_of replayed)) (after_changes (initial_durable ts) (changes_of ts (steps_of replayed))) t.catalog) same_tenants again.agrees,
      );
    }
