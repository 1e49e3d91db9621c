-- A line that is granted to a node is awaited there.
use Rattle.std.proofs.Common.{◌≡◌, ℕ, Bool, true, false, cond, ◌==◌, List, ◌∷◌, refl, sym, ap, ◌∙◌, subst}
use Rattle.std.proofs.lemmas.Bool.{eq-eqb}
use Rattle.memory_contracts.specs.Protocol.Coherent.{Coherent, Fits, free, listing, to_invalidate, invalidated, answered, keeping, serving, to_recall, recalled_kept, recalled, to_grant, granted_owned, granted_shared}
use Rattle.memory_contracts.specs.Protocol.Events.{is_to_home}
use Rattle.memory_contracts.specs.Protocol.Lines.{Cell, mailed, with_mail}
use Rattle.memory_contracts.specs.Protocol.Messages.{Message, Grant}
use Rattle.memory_contracts.specs.Protocol.Roles.{Role, role}
use Rattle.memory_contracts.specs.Protocol.Promised.{promised_waits}
use Rattle.memory_contracts.specs.Letters.{said}
use Rattle.node_memory.specs.Rows.{is_grant}
use Rattle.coherent_memory.specs.SystemInvariants.{IsRightFlight}
use Rattle.coherent_memory.specs.Laws.{GrantsAwaited}
use Rattle.coherent_memory.specs.Systems.{System, alone, between, content, is_kept, line_of, party}
use Rattle.coherent_memory.specs.Turns.{without_flight}
use Rattle.coherent_memory.proofs.Adding.{flight_more}
use Rattle.coherent_memory.proofs.Alike.{all_mailed-register}
use Rattle.coherent_memory.proofs.Keeping.{ProtocolLaws}
use Rattle.coherent_memory.proofs.Lines.{more_at}
use Rattle.coherent_memory.proofs.Places.{All-at_place}

-- ---- a row of the table with a Grant

granted_waits : (g : List ℕ) (own : Bool) (bytes : List ℕ) (ms : List Message) (c : Cell) (r : Role) → c.words ≡ Grant own bytes ∷ ms → Fits g c r → c.stance.register ≡ true
granted_waits g own bytes ms c _ e (free w s) = cc
granted_waits g own bytes ms c _ e (listing w s) = cc
granted_waits g own bytes ms c _ e (to_invalidate w s) = cc
granted_waits g own bytes ms c _ e (invalidated w s) = cc
granted_waits g own bytes ms c _ e (answered w s) = cc
granted_waits g own bytes ms c _ e (keeping w s) = cc
granted_waits g own bytes ms c _ e (serving to_own sharer w s) = cc
granted_waits g own bytes ms c _ e (to_recall whole w s) = cc
granted_waits g own bytes ms c _ e (recalled_kept w s) = cc
granted_waits g own bytes ms c _ e (recalled whole w s) = cc
granted_waits g own bytes ms c _ e (to_grant to_own memory m w s) = promised_waits g to_own c.stance s
granted_waits g own bytes ms c _ e (granted_owned memory w s) = cc
granted_waits g own bytes ms c _ e (granted_shared memory m w s) = cc

grant_waits : (g : List ℕ) (m : Message) (c : Cell) (r : Role) → is_grant m ≡ true → Fits g (mailed m c) r → c.stance.register ≡ true
grant_waits g (Grant own bytes) c r e fits = granted_waits g own bytes c.words (mailed (Grant own bytes) c) r refl fits
grant_waits g m c r e fits = absurd cc

grant_to_node : (m : Message) → is_grant m ≡ true → is_to_home m ≡ false
grant_to_node (Grant own bytes) e = refl
grant_to_node m e = absurd cc

-- ---- the line

pub grants_awaited : ProtocolLaws → GrantsAwaited
grants_awaited laws n p i f s fine below at to grant =
    let k : ℕ = f.message.line.0 in
    let r : System = without_flight i s in
    let m : Message = said f.message in
    let right : IsRightFlight n (is_kept n s) f = All-at_place (IsRightFlight n (is_kept n s)) s.carrier.flights i f fine.right.flights at in
    let co : Coherent n (content n s k) (with_mail (party f) m (line_of n r k)) =
    laws.order n (content n s k) (line_of n s k) (with_mail (party f) m (line_of n r k)) (more_at (flight_more n i f s at)) (fine.lines k right.line) in
    let here : (party f == p) ≡ true = eq-eqb (party f) p (ap (λ b. cond b f.message.from.0 f.to) (grant_to_node m grant) ∙ to) in
    let fits : Fits (content n s k) (mailed m ((line_of n r k).at p)) (role (line_of n r k).home p) =
    subst (λ b. Fits (content n s k) (cond b (mailed m ((line_of n r k).at p)) ((line_of n r k).at p)) (role (line_of n r k).home p)) here (co.nodes p below) in
    sym (all_mailed-register (between n r k p) (alone (s.nodes p) k)) ∙ grant_waits (content n s k) m ((line_of n r k).at p) (role (line_of n r k).home p) grant fits
