-- The device's invariant after each of its steps.
use Rattle.std.proofs.Common.{◌≡◌, ℕ, Bool, true, false, List, [], ◌++◌, length, sym, ap, subst, ◌∙◌, append_assoc}
use Rattle.std.proofs.lemmas.List.{append-nil}
use Rattle.ghost_log.specs.declared.view.Entry.{Entry}
use Rattle.ghost_log.specs.Entries.{IsPrefix}
use Rattle.log_disk.specs.Torn.{IsTorn}
use Rattle.durable_log.specs.Encoding.{encode}
use Rattle.durable_log.specs.Views.{PendingView}
use Rattle.durable_log.specs.Invariants.{IsBacklog, IsDevice}
use Rattle.durable_log.proofs.Prefixes.{prefix_self, prefix_trans, prefix_after}
use Rattle.durable_log.proofs.Encodings as encodings

module _ {E : Type 0} (f : E → List ℕ) where
  -- it takes over all pending bytes
  pub device_takes : (base : List ℕ) (taken taken' marked history : List (Entry E)) (given given' : ℕ) (p : PendingView) (buffer buffer' written durable : List ℕ) (failed : Bool)
      → taken' ≡ history → p.recording ≡ true → given' ≡ p.position → buffer ≡ [] → buffer' ≡ p.segments.bytes → IsBacklog f history taken p
      → IsDevice f base taken marked given buffer written durable failed → IsDevice f base taken' marked given' buffer' written durable failed
  device_takes base taken taken' marked history given given' p buffer buffer' written durable failed all on at empty moved b d =
      let more : IsPrefix (base ++ encode f taken) (base ++ encode f history) = prefix_after base (encode f taken) (encode f history) (encodings.encode_prefix f taken history b.of) in
      let before : failed ≡ false → written ≡ base ++ encode f taken = λ ok. sym (append-nil written) ∙ (ap (λ w. written ++ w) (sym empty) ∙ d.exact ok) in record {
        length_of = ap (λ h. length (encode f h)) all ∙ (b.length_of on ∙ sym at);
        in_order = subst (λ h. IsPrefix written (base ++ encode f h)) (sym all) (prefix_trans written (base ++ encode f taken) (base ++ encode f history) d.in_order more);
        exact = λ ok. ap (λ w. written ++ w) moved ∙ (ap (λ w. w ++ p.segments.bytes) (before ok) ∙ (append_assoc base (encode f taken) p.segments.bytes ∙ ap (λ w. base ++ w) (b.rest on ∙ ap (encode f) (sym all))));
        marked_of = subst (λ h. IsPrefix marked h) (sym all) (prefix_trans marked taken history d.marked_of b.of);
        safe = d.safe;
        down = d.down;
      }

  -- it wrote its buffer
  pub device_writes : (base : List ℕ) (taken marked : List (Entry E)) (given : ℕ) (buffer buffer' written written' durable durable' : List ℕ) (failed : Bool) → failed ≡ false
      → buffer' ≡ [] → written' ≡ written ++ buffer → durable' ≡ durable
      → IsDevice f base taken marked given buffer written durable failed → IsDevice f base taken marked given buffer' written' durable' failed
  device_writes base taken marked given buffer buffer' written written' durable durable' failed sound empty wrote stays d =
      let all : written' ≡ base ++ encode f taken = wrote ∙ d.exact sound in record {
        length_of = d.length_of;
        in_order = ([], append-nil written' ∙ all);
        exact = λ ok. ap (λ w. written' ++ w) empty ∙ (append-nil written' ∙ all);
        marked_of = d.marked_of;
        safe = subst (λ w. IsPrefix (base ++ encode f marked) w) (sym stays) d.safe;
        down = subst (λ w. IsPrefix w written') (sym stays) (prefix_trans durable written written' d.down (buffer, sym wrote));
      }

  -- the disk failed at a write
  pub device_torn : (base : List ℕ) (taken marked : List (Entry E)) (given : ℕ) (buffer buffer' written written' durable durable' : List ℕ) (failed : Bool) → failed ≡ false
      → IsTorn written buffer written' → durable' ≡ durable
      → IsDevice f base taken marked given buffer written durable failed → IsDevice f base taken marked given buffer' written' durable' true
  device_torn base taken marked given buffer buffer' written written' durable durable' failed sound t stays d =
      let more : IsPrefix (written ++ t.part) (base ++ encode f taken) = subst (λ w. IsPrefix (written ++ t.part) w) (d.exact sound) (prefix_after written t.part buffer t.of) in record {
        length_of = d.length_of;
        in_order = subst (λ w. IsPrefix w (base ++ encode f taken)) (sym t.ends) more;
        exact = λ (no : true ≡ false). cc;
        marked_of = d.marked_of;
        safe = subst (λ w. IsPrefix (base ++ encode f marked) w) (sym stays) d.safe;
        down = subst (λ w. IsPrefix w written') (sym stays) (prefix_trans durable written written' d.down (t.part, sym t.ends));
      }

  -- all that was written is durable
  pub all_synced : (base : List ℕ) (taken marked : List (Entry E)) (given : ℕ) (buffer written durable durable' : List ℕ) (failed : Bool) → failed ≡ false
      → buffer ≡ [] → durable' ≡ written → IsDevice f base taken marked given buffer written durable failed → IsPrefix (base ++ encode f taken) durable'
  all_synced base taken marked given buffer written durable durable' failed sound empty all d =
      let before : written ≡ base ++ encode f taken = sym (append-nil written) ∙ (ap (λ w. written ++ w) (sym empty) ∙ d.exact sound) in
      ([], append-nil (base ++ encode f taken) ∙ sym (all ∙ before))

  -- more is durable
  pub device_synced : (base : List ℕ) (taken marked : List (Entry E)) (given : ℕ) (buffer written written' durable durable' : List ℕ) (failed : Bool) → written' ≡ written → durable' ≡ written
      → IsDevice f base taken marked given buffer written durable failed → IsDevice f base taken marked given buffer written' durable' failed
  device_synced base taken marked given buffer written written' durable durable' failed same all d = record {
    length_of = d.length_of;
    in_order = subst (λ w. IsPrefix w (base ++ encode f taken)) (sym same) d.in_order;
    exact = λ ok. ap (λ w. w ++ buffer) same ∙ d.exact ok;
    marked_of = d.marked_of;
    safe = prefix_trans (base ++ encode f marked) durable durable' d.safe (subst (λ w. IsPrefix durable w) (sym all) d.down);
    down = subst (λ w. IsPrefix w written') (same ∙ sym all) (prefix_self written');
  }

  -- the disk failed at a sync
  pub device_failed : (base : List ℕ) (taken marked : List (Entry E)) (given : ℕ) (buffer written written' durable durable' : List ℕ) (failed : Bool) → written' ≡ written → durable' ≡ durable
      → IsDevice f base taken marked given buffer written durable failed → IsDevice f base taken marked given buffer written' durable' true
  device_failed base taken marked given buffer written written' durable durable' failed same stays d = record {
    length_of = d.length_of;
    in_order = subst (λ w. IsPrefix w (base ++ encode f taken)) (sym same) d.in_order;
    exact = λ (no : true ≡ false). cc;
    marked_of = d.marked_of;
    safe = subst (λ w. IsPrefix (base ++ encode f marked) w) (sym stays) d.safe;
    down = subst (λ w. IsPrefix w written') (sym stays) (subst (λ w. IsPrefix durable w) (sym same) d.down);
  }

  -- it marks what it took over, all of which is durable
  pub device_marks : (base : List ℕ) (taken marked marked' : List (Entry E)) (given : ℕ) (buffer written durable : List ℕ) (failed : Bool) → marked' ≡ taken
      → IsPrefix (base ++ encode f taken) durable → IsDevice f base taken marked given buffer written durable failed → IsDevice f base taken marked' given buffer written durable failed
  device_marks base taken marked marked' given buffer written durable failed now safe d = record {
    length_of = d.length_of;
    in_order = d.in_order;
    exact = d.exact;
    marked_of = subst (λ h. IsPrefix h taken) (sym now) (prefix_self taken);
    safe = subst (λ h. IsPrefix (base ++ encode f h) durable) (sym now) safe;
    down = d.down;
  }

  -- a new device over a disk that has the whole history
  pub new_device : (base : List ℕ) (history taken marked : List (Entry E)) (given : ℕ) (buffer written durable : List ℕ) → taken ≡ history → marked ≡ history
      → length (encode f history) ≡ given → buffer ≡ [] → written ≡ base ++ encode f history → durable ≡ base ++ encode f history
      → IsDevice f base taken marked given buffer written durable false
  new_device base history taken marked given buffer written durable took marks at empty wrote synced =
      let whole : written ≡ base ++ encode f taken = wrote ∙ ap (λ h. base ++ encode f h) (sym took) in record {
        length_of = ap (λ h. length (encode f h)) took ∙ at;
        in_order = ([], append-nil written ∙ whole);
        exact = λ ok. ap (λ w. written ++ w) empty ∙ (append-nil written ∙ whole);
        marked_of = subst (λ h. IsPrefix marked h) (sym took) (subst (λ h. IsPrefix h history) (sym marks) (prefix_self history));
        safe = ([], append-nil (base ++ encode f marked) ∙ (ap (λ h. base ++ encode f h) marks ∙ sym synced));
        down = ([], append-nil durable ∙ (synced ∙ sym wrote));
      }
