mod EndedLemmas
