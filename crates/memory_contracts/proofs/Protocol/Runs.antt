-- Every event keeps a line coherent, and so does every list of events.
use Rattle.std.proofs.Common.{◌≡◌, ℕ, ◌<◌, Bool, true, false, cond, ◌==◌, List, [], ◌∷◌, refl, sym, ap, ◌∙◌, subst}
use Rattle.std.proofs.lemmas.Bool.{eqb-true}
use Rattle.machine_config.specs.declared.config.Protocol.{Protocol}
use Rattle.memory_contracts.specs.Protocol.Messages.{Message}
use Rattle.memory_contracts.specs.Protocol.Lines.{HomeRecord, Owned, Cell, LineState, mailed, with_mail, with_cell, with_stance}
use Rattle.memory_contracts.specs.Protocol.NodeTable.{after_message, after_start, after_eviction, after_write, may_start}
use Rattle.memory_contracts.specs.Protocol.Roles.{role}
use Rattle.memory_contracts.specs.Protocol.Coherent.{Fits, free, at_rest, bare, Coherent}
use Rattle.memory_contracts.specs.Protocol.Events.{Event, HomeTakes, NodeTakes, Starts, Evicts, Reads, Writes, Moment, LeadTo, start, is_to_node, content_after, content_after_all}
use Rattle.memory_contracts.specs.Protocol.Laws.{EventsKeepCoherence, LinesStayCoherent}
use Rattle.memory_contracts.proofs.Protocol.Cells.{keeps_row}
use Rattle.memory_contracts.proofs.Protocol.Nodes.{message_keeps, start_classes, evict_classes}
use Rattle.memory_contracts.proofs.Protocol.Whole.{home_keeps}
use Rattle.memory_contracts.proofs.Protocol.Owners.{IsAlone, alone, owned_content, owned_row, written_row, outside_row}

-- ---- the events of a node

-- a cell of one node is put in place
cell_at : (g : List ℕ) (h : HomeRecord) (x y : ℕ) (c d : Cell) → Fits g c (role h x) → ((x == y) ≡ false → Fits g d (role h y)) → Fits g (cond (x == y) c d) (role h y)
cell_at g h x y c d new old = by (x == y) refl
  where
    by : (t : Bool) → (x == y) ≡ t → Fits g (cond t c d) (role h y)
    by true is = subst (λ z. Fits g c (role h z)) (eqb-true x y is) new
    by false other = old other

-- the node takes a message, which stands beside all else of the line
pub node_keeps : (n : ℕ) (g : List ℕ) (x : ℕ) (m : Message) (rest : LineState) → is_to_node m ≡ true
    → Coherent n g (with_mail x m rest) → Coherent n g (with_cell x (after_message m (rest.at x)) rest)
node_keeps n g x m rest down co = record { home = co.home; nodes = λ y known. at_node y (x == y) refl (co.nodes y known) }
  where
    at_node : (y : ℕ) (t : Bool) → (x == y) ≡ t → Fits g (cond t (mailed m (rest.at y)) (rest.at y)) (role rest.home y) → Fits g (cond t (after_message m (rest.at x)) (rest.at y)) (role rest.home y)
    at_node y true is f = subst (λ z. Fits g (after_message m (rest.at z)) (role rest.home y)) (sym (eqb-true x y is)) (message_keeps g (rest.at y) m (role rest.home y) down f)
    at_node y false other f = f

pub start_keeps : (n : ℕ) (g : List ℕ) (x : ℕ) (own : Bool) (l : LineState) → x < n → may_start own (l.at x).stance.copy ≡ true → (l.at x).stance.register ≡ false
    → Coherent n g l → Coherent n g (with_stance x (after_start own (l.at x).stance) l)
start_keeps n g x own l below may shut co = record {
  home = co.home;
  nodes = λ y known. cell_at g l.home x y _ (l.at y) (keeps_row g (l.at x) _ (role l.home x) (start_classes g own (l.at x).stance may shut) (co.nodes x below)) (λ other. co.nodes y known);
}

pub evict_keeps : (n : ℕ) (g : List ℕ) (x : ℕ) (l : LineState) → x < n → Coherent n g l → Coherent n g (with_stance x (after_eviction (l.at x).stance) l)
evict_keeps n g x l below co = record {
  home = co.home;
  nodes = λ y known. cell_at g l.home x y _ (l.at y) (keeps_row g (l.at x) _ (role l.home x) (evict_classes g (l.at x).stance) (co.nodes x below)) (λ other. co.nodes y known);
}

-- a write: the line has the new content then
pub write_keeps : (n : ℕ) (g f : List ℕ) (x : ℕ) (bytes : List ℕ) (l : LineState) → x < n → (l.at x).stance.copy ≡ Owned bytes
    → Coherent n g l → Coherent n f (with_stance x (after_write f (l.at x).stance) l)
write_keeps n g f x bytes l below has co =
    let lone : IsAlone n l.home x = alone n g l.home x co.home (owned_row g (l.at x) bytes (role l.home x) has (co.nodes x below)) in
    record {
      home = lone.home f;
      nodes = λ y known. cell_at f l.home x y _ (l.at y) (written_row g f (l.at x) bytes (role l.home x) has (co.nodes x below)) (λ other. outside_row g f (l.at y) (role l.home y) (lone.others y known other) (co.nodes y known));
    }

-- ---- any event

pub event_keeps : EventsKeepCoherence
event_keeps protocol n (HomeTakes x m) u v co (rest, below, up, is, leads) =
    subst (λ v. Coherent n v.content v.line × (v.content ≡ u.content)) (sym leads)
    (home_keeps protocol n u.content x m rest below up (subst (λ l. Coherent n u.content l) is co), refl)
event_keeps protocol n (NodeTakes x m) u v co (rest, below, down, is, leads) =
    subst (λ v. Coherent n v.content v.line × (v.content ≡ u.content)) (sym leads)
    (node_keeps n u.content x m rest down (subst (λ l. Coherent n u.content l) is co), refl)
event_keeps protocol n (Starts x own) u v co (below, may, shut, leads) =
    subst (λ v. Coherent n v.content v.line × (v.content ≡ u.content)) (sym leads) (start_keeps n u.content x own u.line below may shut co, refl)
event_keeps protocol n (Evicts x) u v co (below, leads) =
    subst (λ v. Coherent n v.content v.line × (v.content ≡ u.content)) (sym leads) (evict_keeps n u.content x u.line below co, refl)
event_keeps protocol n (Reads x) u v co (below, held, leads) =
    subst (λ v. Coherent n v.content v.line × (v.content ≡ u.content)) (sym leads) (co, refl)
event_keeps protocol n (Writes x change) u v co (below, bytes, has, leads) =
    let same : bytes ≡ u.content = owned_content u.content (u.line.at x) bytes (role u.line.home x) has (co.nodes x below) in
    subst (λ v. Coherent n v.content v.line × (v.content ≡ change u.content)) (sym leads)
    (subst (λ b. Coherent n (change u.content) (with_stance x (after_write (change b) (u.line.at x).stance) u.line)) (sym same) (write_keeps n u.content (change u.content) x bytes u.line below has co), refl)

-- ---- any list of events

pub events_keep : (protocol : Protocol) (n : ℕ) (es : List Event) (u v : Moment) → Coherent n u.content u.line → LeadTo protocol n es u v
    → Coherent n v.content v.line × (v.content ≡ content_after_all es u.content)
events_keep protocol n [] u v co leads = subst (λ v. Coherent n v.content v.line × (v.content ≡ u.content)) (sym leads) (co, refl)
events_keep protocol n (e ∷ es) u v co (w, leads, more) =
    let one : Coherent n w.content w.line × (w.content ≡ content_after e u.content) = event_keeps protocol n e u w co leads in
    let rest : Coherent n v.content v.line × (v.content ≡ content_after_all es w.content) = events_keep protocol n es w v one.0 more in
    (rest.0, rest.1 ∙ ap (content_after_all es) one.1)

pub start_coherent : (n : ℕ) (bytes : List ℕ) → Coherent n bytes (start bytes)
start_coherent n bytes = record { home = refl; nodes = λ x known. free refl (bare (at_rest refl)) }

pub lines_stay : LinesStayCoherent
lines_stay protocol n bytes events v leads = events_keep protocol n events _ v (start_coherent n bytes) leads
