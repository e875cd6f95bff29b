mod MoveLemmas
mod RestLemmas
