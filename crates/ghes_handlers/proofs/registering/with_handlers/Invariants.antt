use Rattle.std.proofs.Common.{◌≡◌, ◌≤◌, ◌+◌, ◌++◌, vec_len, vec_capacity, length}
use Rattle.ghes_handlers.specs.Registering.{chain_of}
use Rattle.ghes_handlers.proofs.registering.with_handlers.Given as goal

abbrev pub invariant-loop-rest : goal.invariant-loop-rest
invariant-loop-rest g l =
    record {
      chain : l.chain ≡ chain_of l.chain.handlers;
      order : l.chain.handlers ++ l.rest.items ≡ l.fn.handlers.items;
      few : length l.chain.handlers + vec_len l.rest ≤ 32;
      room : length l.chain.handlers + vec_len l.rest ≤ vec_capacity l.rest;
    }

abbrev pub decreases-loop-rest : goal.decreases-loop-rest
decreases-loop-rest g l = vec_len l.rest
