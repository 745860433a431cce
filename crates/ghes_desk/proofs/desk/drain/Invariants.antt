use Rattle.std.proofs.Common.{◌≡◌, map, length}
use Rattle.ghes_call.specs.Packet.{seen_of}
use Rattle.ghes_desk.specs.Cache.{Caches, AreWithin}
use Rattle.ghes_desk.specs.Desk.{drained}
use Rattle.ghes_desk.proofs.desk.drain.Given as goal

abbrev pub invariant-loop-packet : goal.invariant-loop-packet
invariant-loop-packet l =
    record {
      taken : drained l.time (map seen_of l.rest) l.ledger ≡ drained l.time (map seen_of l.packets) l.initial.ledger;
      fits : AreWithin l.initial.cache.block_len (map seen_of l.rest);
      cache : Caches l.ledger.reports l.cache;
      block_len : l.cache.block_len ≡ l.initial.cache.block_len;
    }

abbrev pub decreases-loop-packet : goal.decreases-loop-packet
decreases-loop-packet l = length l.rest
