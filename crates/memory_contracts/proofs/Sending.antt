-- A message that is sent joins the end of the list, and has not arrived in the tick of its sending.
use Rattle.std.proofs.Common.{◌≡◌, ℕ, ◌<◌, ◌≤◌, nat_le, false, cond, List, [], ◌∷◌, ◌++◌, sym, ap, ◌∙◌, arith}
use Rattle.std.proofs.lemmas.Bool.Decides.{nat_tests}
use Rattle.std.proofs.lemmas.List.{map_push}
use Rattle.memory_contracts.specs.Bags.{marked}
use Rattle.memory_contracts.specs.Carrier.{after_send, carries_bytes, class_of, earliest, flits_of, is_full, packet_flits, sends}
use Rattle.memory_contracts.specs.Packets.{carrier_of, flight_of, flights_of}
use Rattle.memory_contracts.specs.declared.mesh.Mesh.{Mesh}
use Rattle.memory_contracts.specs.declared.packet.Packet.{Packet}

-- a message has a flit at least
some_flit : (flit_bytes bytes : ℕ) → 0 < flit_bytes → 1 ≤ packet_flits flit_bytes bytes
some_flit flit_bytes bytes some = grind arith

pub marked-sent : (mesh : Mesh) (now : ℕ) (packets : List Packet) (s : Packet) → 0 < mesh.flit_bytes → s.length ≡ flits_of mesh.flit_bytes mesh.line_bytes s.message.kind → s.start ≡ now →
    marked mesh.width now (flight_of s) ≡ sends (carrier_of mesh now packets) s.source.0 s.to.0 s.message
marked-sent mesh now packets s some length start =
    let flits = some_flit mesh.flit_bytes (cond (carries_bytes s.message.kind) mesh.line_bytes 0) some in
    let under_way : nat_le (earliest mesh.width (flight_of s)) now ≡ false = grind (arith, nat_tests, flits, length, start) in
    λ i. record { source = s.source.0; to = s.to.0; length = length i; start = start i; message = s.message; arrived = under_way i; place = 0; left = 0; came = 0 }

pub sent-after : (mesh : Mesh) (now : ℕ) (old new : List Packet) (s : Packet) → is_full (carrier_of mesh now old) s.source.0 (class_of s.message.kind) ≡ false → new ≡ old ++ s ∷ [] →
    marked mesh.width now (flight_of s) ≡ sends (carrier_of mesh now old) s.source.0 s.to.0 s.message → carrier_of mesh now new ≡ after_send (carrier_of mesh now old) s.source.0 s.to.0 s.message
sent-after mesh now old new s room is mark =
    let v = carrier_of mesh now old in
    let flights : flights_of mesh.width now new ≡ v.flights ++ sends v s.source.0 s.to.0 s.message ∷ [] =
    ap (flights_of mesh.width now) is ∙ map_push (λ s. marked mesh.width now (flight_of s)) old s ∙ ap (λ f. v.flights ++ f ∷ []) mark in
    ap (λ fs. record v { flights = fs }) flights
    ∙ sym (ap (λ b. cond b v (record v { flights = v.flights ++ sends v s.source.0 s.to.0 s.message ∷ [] })) room)
