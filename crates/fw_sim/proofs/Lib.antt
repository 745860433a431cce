mod QueueLemmas
mod RefusalLemmas
mod SoundLemmas
